-- Laws of bytes and parts of a list that the readers' proofs cite.
use Prim.Native.Nat.{ℕ, zero, suc, ◌-◌, ◌≤◌}
use mathlib.Core.Path.{◌≡◌, sym, ◌∙◌}
use mathlib.Core.List.{List}
use native.Mathlib.Omega.{arith}
use lib.ListN.{length, take, drop, length-drop, get_or-eq_default}
use lib.Seq.{take_all}
use lib.Dec.{lit≤}
use Rattle.frames.specs.Layout.{byte, fixed_size}

-- a byte past the end reads as 0
pub byte_past : (f : List ℕ) (i : ℕ) → length f ≤ i → byte f i ≡ 0
unfolding byte
byte_past f i h = get_or-eq_default f 0 h

-- a part that the end of the list cuts off
pub part_cut : (f : List ℕ) (a n : ℕ) → length f - a ≤ n → take (length f - a) (drop a f) ≡ take n (drop a f)
part_cut f a n h =
    take_all (length f - a) (drop a f) (omega (arith, length-drop a f))
    ∙ sym (take_all n (drop a f) (omega (arith, length-drop a f)))

-- no fixed part is longer than 8 bytes
pub fixed-small : (k : ℕ) → fixed_size k ≤ 8
unfolding fixed_size
fixed-small zero = lit≤ tt
fixed-small (suc zero) = lit≤ tt
fixed-small (suc (suc zero)) = lit≤ tt
fixed-small (suc (suc (suc zero))) = lit≤ tt
fixed-small (suc (suc (suc (suc zero)))) = lit≤ tt
fixed-small (suc (suc (suc (suc (suc zero))))) = lit≤ tt
fixed-small (suc (suc (suc (suc (suc (suc zero)))))) = lit≤ tt
fixed-small (suc (suc (suc (suc (suc (suc (suc k))))))) = lit≤ tt
