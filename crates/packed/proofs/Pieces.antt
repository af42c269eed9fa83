-- What stands for a symbol, as the code finds it: by the class in the symbol's record, the symbol read at its place in the statement, and the
-- image within the used part of the pool, which later writing leaves alone.
use Prim.Native.Nat.{ℕ, ◌≤◌}
use mathlib.Core.Path.{◌≡◌, refl, sym, ◌∙◌, ap}
use mathlib.Core.Bool.{Bool, true, false}
use mathlib.Core.List.Memᴰ
use mathlib.Core.List.{List, [], ◌∷◌}
use lib.ListN.{length, get_or}
use Rattle.frames.specs.Logic.{pick}
use Rattle.frames.specs.Layout.{class_at, rest_at}
use Rattle.frames.specs.Database.{symbol_at}
use Rattle.frames.proofs.Chains.{pick_first, pick_second, equal-yes, equal-no}
use Rattle.packed.specs.Packing.{ended}
use Rattle.packed.specs.Pool.{written, range, is_var, spelled, image, piece, Imaged}
use Rattle.packed.proofs.Written.{range-before}

pub var-yes : (f syms : List ℕ) (s o k : ℕ) → o ≡ get_or syms s 0 → k ≡ (symbol_at f o).class → k ≡ 1 → is_var f syms s ≡ true
unfolding is_var symbol_at
var-yes f syms s o k e c one = equal-yes (ap (class_at f) (sym e) ∙ sym c ∙ one)

pub var-no : (f syms : List ℕ) (s o k : ℕ) → o ≡ get_or syms s 0 → k ≡ (symbol_at f o).class → (k ≡ 1 → ⊥) → is_var f syms s ≡ false
unfolding is_var symbol_at
var-no f syms s o k e c n = equal-no (λ one. n (c ∙ ap (class_at f) e ∙ one))

pub name-spelled : (f syms name : List ℕ) (s o : ℕ) → o ≡ get_or syms s 0 → name ≡ (symbol_at f o).name → ended name ≡ spelled f syms s
unfolding spelled symbol_at
name-spelled f syms name s o e n = ap ended (n ∙ ap (rest_at f) e)

pub piece-name : (f syms froms tos pool : List ℕ) (s : ℕ) → is_var f syms s ≡ false → spelled f syms s ≡ piece f syms froms tos pool s
unfolding piece
piece-name f syms froms tos pool s v = pick_second _ v refl

pub piece-image : (f syms froms tos pool : List ℕ) (s from to : ℕ) → is_var f syms s ≡ true → from ≡ get_or froms s 0 → to ≡ get_or tos s 0
    → range from to pool ≡ piece f syms froms tos pool s
unfolding piece image
piece-image f syms froms tos pool s from to v a b =
    pick_first _ v (ap (λ (x : ℕ). range x to pool) a ∙ ap (λ (y : ℕ). range (get_or froms s 0) y pool) b)

-- writing after the used part leaves the piece as it is
pub piece-kept : (f syms froms tos bytes pool pool' : List ℕ) (used s : ℕ) → Imaged f syms froms tos used (s ∷ []) → used ≤ length pool
    → pool' ≡ written bytes used pool → piece f syms froms tos pool' s ≡ piece f syms froms tos pool s
unfolding piece image pick
piece-kept f syms froms tos bytes pool pool' used s im l w = tried (is_var f syms s) refl
  where
    tried : (t : Bool) → is_var f syms s ≡ t
        → pick t (range (get_or froms s 0) (get_or tos s 0) pool') (spelled f syms s) ≡ pick t (range (get_or froms s 0) (get_or tos s 0) pool) (spelled f syms s)
    tried false v = refl
    tried true v =
        ap (λ (p : List ℕ). range (get_or froms s 0) (get_or tos s 0) p) w
        ∙ range-before bytes used pool (get_or froms s 0) (get_or tos s 0) (im.rises s (Memᴰ.head refl) v) (im.within s (Memᴰ.head refl) v) l
