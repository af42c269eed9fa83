-- The symbols of a statement as a loop meets them, one by one.
use Prim.Native.Nat.{ℕ, zero, suc, ◌+◌, ◌-◌, ◌*◌, ◌≤◌, ◌<◌}
use mathlib.Core.Path.{◌≡◌, refl, sym, ◌∙◌, ap, subst}
use mathlib.Core.List.Memᴰ
use mathlib.Core.List.{List, [], ◌∷◌}
use native.Mathlib.Omega.{arith}
use lib.ListN.{length, drop}
use lib.Seq.{drop-drop}
use Rattle.frames.specs.Layout.{u16, symbol_count, symbols_from, symbols_at}
use Rattle.frames.specs.Facts.{◌∈◌}
use Rattle.frames.proofs.Loops.{Here, length-rows, here-rows}
use Rattle.packed.specs.Pool.{Imaged}

-- a symbol that stands behind the first one is a member of what follows the first
later-member : {xs : List ℕ} {i s : ℕ} → Here xs i s → 1 ≤ i → s ∈ drop 1 xs
later-member {xs} {i} {s} h l =
    let e : 1 + (i - 1) ≡ i = omega arith in
    let d : drop (i - 1) (drop 1 xs) ≡ s ∷ drop (i + 1) xs = drop-drop (i - 1) 1 xs ∙ ap (λ (k : ℕ). drop k xs) e ∙ h.is in
    member-drop (i - 1) (drop 1 xs) (subst (λ (r : List ℕ). s ∈ r) (sym d) (Memᴰ.head refl))
  where
    member-drop : (k : ℕ) (ys : List ℕ) → s ∈ drop k ys → s ∈ ys
    member-drop zero ys m = m
    member-drop (suc k) [] m = m
    member-drop (suc k) (y ∷ ys) m = Memᴰ.tail (member-drop k ys m)

-- so its image is known
pub imaged-one : {f syms froms tos : List ℕ} {used : ℕ} {xs : List ℕ} {i s : ℕ} → Imaged f syms froms tos used (drop 1 xs) → Here xs i s
    → 1 ≤ i → (end : ℕ) → used ≤ end → Imaged f syms froms tos end (s ∷ [])
imaged-one {f} {syms} {froms} {tos} {used} {xs} {s = s} m h l end more =
    record { rises = λ t n v. m.rises t (at_one t n) v; within = λ t n v. let w = m.within t (at_one t n) v in omega arith }
  where
    at_one : (t : ℕ) → t ∈ (s ∷ []) → t ∈ drop 1 xs
    at_one t n = rw (Memᴰ.eq_of_singleton n) (later-member h l)

-- the symbols of a statement, read one by one
pub here-symbol : (f : List ℕ) (at i : ℕ) {n base s : ℕ} → n ≡ symbol_count f at → base ≡ symbols_from f at → s ≡ u16 f (base + 2 * i) → i < n
    → Here (symbols_at f at) i s
unfolding symbols_at
here-symbol f at i d b e l = rw (e, b) (here-rows (u16 f) 2 (symbol_count f at) (symbols_from f at) i (omega arith))

pub symbols-length : (f : List ℕ) (at : ℕ) → length (symbols_at f at) ≡ symbol_count f at
unfolding symbols_at
symbols-length f at = length-rows (u16 f) 2 (symbol_count f at) (symbols_from f at)
