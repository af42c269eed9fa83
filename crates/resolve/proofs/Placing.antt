-- Local labels: a search among them stops at the first that is the same (`PlaceSoFar`), and three stores past the last add one more.
use Prim.Native.Nat.{ℕ, zero, suc, ◌+◌, ◌*◌, ◌≤◌, ◌<◌}
use mathlib.Core.Path.{◌≡◌, refl, sym, ◌∙◌, ap, ap₂}
use mathlib.Core.Bool.{true, false}
use mathlib.Core.Option.{none, some}
use mathlib.Core.List.{List, [], ◌∷◌, ◌++◌}
use native.Mathlib.Numerals.{add-one}
use native.Mathlib.Nat.{add-zero}
use native.Mathlib.Omega.{arith}
use lib.ListN.{length, get_or, drop, set, length-set, drop_of_length-le}
use lib.Seq.{get_or-set_same, get_or-set_other}
use Rattle.frames.specs.Logic.{pick, same, rows}
use Rattle.frames.proofs.Chains.{pick_first, pick_second}
use Rattle.frames.proofs.Loops.{Here, here-rows, length-rows}
use Rattle.machine.specs.Memory.{place_of}
use Rattle.packed.specs.Pool.{range}
use Rattle.resolve.specs.Locals.{local_at, locals_of, AddsLocal}

-- no local label so far is the same
pub record PlaceSoFar (label : List ℕ) (ls : List (List ℕ × ℕ)) (i : ℕ) : Type 0 where
  pub is : place_of label (drop i ls) ≡ place_of label ls

pub place_none : (label : List ℕ) (ls : List (List ℕ × ℕ)) → PlaceSoFar label ls 0
place_none label ls = record { is = refl }

place_at : {label : List ℕ} {ls : List (List ℕ × ℕ)} {i : ℕ} {l : List ℕ × ℕ} → PlaceSoFar label ls i → Here ls i l
    → pick (same l.0 label) (some l.1) (place_of label (drop (i + 1) ls)) ≡ place_of label ls
unfolding place_of
place_at {label} s h = sym (ap (place_of label) h.is) ∙ s.is

pub place-more : {label : List ℕ} {ls : List (List ℕ × ℕ)} {i : ℕ} {l : List ℕ × ℕ} → PlaceSoFar label ls i → Here ls i l
    → same l.0 label ≡ false → PlaceSoFar label ls (i + 1)
place-more s h e = record { is = pick_second _ e refl ∙ place_at s h }

pub place-stop : {label : List ℕ} {ls : List (List ℕ × ℕ)} {i : ℕ} {l : List ℕ × ℕ} → PlaceSoFar label ls i → Here ls i l
    → same l.0 label ≡ true → place_of label ls ≡ some l.1
place-stop s h e = sym (pick_first _ e refl ∙ place_at s h)

pub place-done : {label : List ℕ} {ls : List (List ℕ × ℕ)} {i : ℕ} → PlaceSoFar label ls i → length ls ≤ i → place_of label ls ≡ none
unfolding place_of
place-done {label} {ls} s h = sym s.is ∙ ap (place_of label) (drop_of_length-le ls h)

pub locals-length : (text table : List ℕ) (n : ℕ) → length (locals_of text table n) ≡ n
unfolding locals_of
locals-length text table n = length-rows (local_at text table) 1 n 0

pub here-local : (text table : List ℕ) (n i : ℕ) → i < n → Here (locals_of text table n) i (local_at text table i)
unfolding locals_of
here-local text table n i l =
    let e : 0 + 1 * i ≡ i = omega arith in
    rw e at (here-rows (local_at text table) 1 n 0 i l)

-- one more row after n, and rows that read the same
rows_more : {A : Type 0} (read : ℕ → A) (n from : ℕ) → rows read 1 (suc n) from ≡ rows read 1 n from ++ (read (from + n) ∷ [])
unfolding rows
rows_more read zero from = rw add-zero refl
rows_more read (suc n) from =
    let e : from + 1 + n ≡ from + suc n = omega arith in
    ap (λ l. read from ∷ l) (rw e at (rows_more read n (from + 1)))

rows_agree : {A : Type 0} (read read' : ℕ → A) (n from : ℕ) → ((i : ℕ) → i < from + n → read i ≡ read' i)
    → rows read 1 n from ≡ rows read' 1 n from
unfolding rows
rows_agree read read' zero from h = refl
rows_agree read read' (suc n) from h = ap₂ ◌∷◌ (h from (omega arith)) (rows_agree read read' n (from + 1) (λ i l. h i (omega arith)))

-- the three stores
module _ (table : List ℕ) (count from to place : ℕ) (fits : 3 * count + 3 ≤ length table) where
  abbrev begun : List ℕ
  begun = set table (3 * count) from

  abbrev ended : List ℕ
  ended = set begun (3 * count + 1) to

  abbrev stored : List ℕ
  stored = set ended (3 * count + 2) place

  stored-kept : (j : ℕ) → j < 3 * count → get_or stored j 0 ≡ get_or table j 0
  stored-kept j l =
      get_or-set_other ended (3 * count + 2) j place 0 (λ e. omega arith)
      ∙ (get_or-set_other begun (3 * count + 1) j to 0 (λ e. omega arith) ∙ get_or-set_other table (3 * count) j from 0 (λ e. omega arith))

  stored-from : get_or stored (3 * count) 0 ≡ from
  stored-from =
      get_or-set_other ended (3 * count + 2) (3 * count) place 0 (λ e. omega arith)
      ∙ (get_or-set_other begun (3 * count + 1) (3 * count) to 0 (λ e. omega arith) ∙ get_or-set_same table (3 * count) from 0 (omega arith))

  stored-to : get_or stored (3 * count + 1) 0 ≡ to
  stored-to =
      let n = length-set table (3 * count) from in
      get_or-set_other ended (3 * count + 2) (3 * count + 1) place 0 (λ e. omega arith)
      ∙ get_or-set_same begun (3 * count + 1) to 0 (omega arith)

  stored-place : get_or stored (3 * count + 2) 0 ≡ place
  stored-place =
      let n = length-set table (3 * count) from in
      let k = length-set begun (3 * count + 1) to in
      get_or-set_same ended (3 * count + 2) place 0 (omega arith)

  stored_at : (text : List ℕ) → local_at text stored count ≡ (range from to text, place)
  unfolding local_at
  stored_at text = ap₂ (λ (l : List ℕ) (k : ℕ). (l, k)) (ap₂ (λ (x y : ℕ). range x y text) stored-from stored-to) stored-place

  stored_same : (text : List ℕ) (i : ℕ) → i < 0 + count → local_at text stored i ≡ local_at text table i
  unfolding local_at
  stored_same text i l =
      ap₂ (λ (l : List ℕ) (k : ℕ). (l, k))
      (ap₂ (λ (x y : ℕ). range x y text) (stored-kept (3 * i) (omega arith)) (stored-kept (3 * i + 1) (omega arith)))
      (stored-kept (3 * i + 2) (omega arith))

  pub local-added : AddsLocal table count from to place stored
  unfolding locals_of
  local-added =
      record {
        sized = simp length-set;
        adds = λ text.
            let e : 0 + count ≡ count = omega arith in
            rw (add-one count)
            (rows_more (local_at text stored) count 0
            ∙ ap₂ ◌++◌ (rows_agree (local_at text stored) (local_at text table) count 0 (stored_same text))
            (ap (λ (l : List ℕ × ℕ). l ∷ []) (ap (local_at text stored) e ∙ stored_at text)));
      }
