-- One hypothesis with its entry: the clauses of its contract, and what they mean for the definition's test.
use Rattle.std.proofs.Common.{Ok, Err}
use Prim.Native.Nat.{ℕ, ◌≤◌, ◌%◌}
use mathlib.Core.Path.{◌≡◌, refl, sym, ◌∙◌, ap}
use mathlib.Core.Bool.{Bool, true, false}
use mathlib.Core.List.{List}
use native.Mathlib.Omega.{arith}
use lib.ListN.{length, get_or, set, length-set}
use lib.Seq.{get_or-set_same, get_or-set_other}
use Rattle.frames.specs.Logic.{below, equal, pick}
use Rattle.frames.specs.Database.{statement_at}
use Rattle.frames.specs.Facts.{floated, typecode}
use Rattle.frames.proofs.Chains.{pick_first, pick_second, equal-yes, equal-no, equal-true, equal-false, below_true, below_false}
use Rattle.frames.proofs.Loops.{get_or_past}
use Rattle.frames.proofs.Tells.{true-not-false}
use Rattle.machine.specs.declared.Refusal.TheVariants.{StepFloatWrongType, StepEssenWrongType, StepEssenWrong}
use Rattle.packed.specs.Pool.{Imaged}
use Rattle.packed.specs.Images.{store_set}
use Rattle.packed.specs.Lists.{Compares}
use Rattle.packed.proofs.Imaging.{stored-length}
use Rattle.memory.specs.declared.table.Row.{Row}
use Rattle.machine.specs.Passed.{Passed}
use Rattle.apply.specs.Hyps.{Clamped, Ranged, BindsFloat, ChecksEssential, ProcessesHyp}

module _ (f : List ℕ) (at : ℕ) (row : Row) (froms tos sets : List ℕ) {code : ℕ} (is : code ≡ get_or (statement_at f at).symbols 0 0) where
  other : (row.head ≡ code → ⊥) → equal row.head (typecode (statement_at f at)) ≡ false
  unfolding typecode
  other n = equal-no (λ e. n (e ∙ sym is))

  alike : row.head ≡ code → equal row.head (typecode (statement_at f at)) ≡ true
  unfolding typecode
  alike e = equal-yes (e ∙ is)

  pub binds-other : (row.head ≡ code → ⊥) → BindsFloat f at row froms tos sets froms tos sets (Err StepFloatWrongType)
  binds-other n =
      record {
        answers = pick_second _ (other n) refl;
        froms_is = pick_second _ (other n) refl;
        tos_is = pick_second _ (other n) refl;
        sets_is = pick_second _ (other n) refl;
      }

  pub binds-same : {v : ℕ} {froms' tos' sets' : List ℕ} → row.head ≡ code → v ≡ get_or (statement_at f at).symbols 1 0 → froms' ≡ set froms (v % 65536) row.from
      → tos' ≡ set tos (v % 65536) row.to → sets' ≡ store_set sets (v % 65536) row.vars.words
      → BindsFloat f at row froms tos sets froms' tos' sets' (Ok tt)
  unfolding floated
  binds-same e v a b c =
      record {
        answers = pick_first _ (alike e) refl;
        froms_is = pick_first _ (alike e) (rw v at a);
        tos_is = pick_first _ (alike e) (rw v at b);
        sets_is = pick_first _ (alike e) (rw v at c);
      }

  module _ (syms pool : List ℕ) where
    pub essential-other : (row.head ≡ code → ⊥) → ChecksEssential f syms at row froms tos pool (Err StepEssenWrongType)
    essential-other n =
        record { other = λ e. refl; alike = λ e. absurd (true-not-false e (other n)) }

    pub essential-same : {t : Bool} → row.head ≡ code → Compares f syms at froms tos pool row.from row.to t
        → ChecksEssential f syms at row froms tos pool (pick t (Ok tt) (Err StepEssenWrong))
    essential-same {t} e c = record { other = λ n. absurd (true-not-false (alike e) n); alike = λ a. (t, c, refl) }

-- one of two lists of one length
length-pick : (t : Bool) (xs ys : List ℕ) → length xs ≡ length ys → length (pick t xs ys) ≡ length ys
unfolding pick
length-pick true xs ys e = e
length-pick false xs ys e = refl

-- the ranges stay as they must be when one more is bound
pub ranged-set : {froms tos : List ℕ} {n : ℕ} (v from to : ℕ) → length froms ≤ length tos → Ranged froms tos n → from ≤ to → to ≤ n
    → Ranged (set froms v from) (set tos v to) n
ranged-set {froms} {tos} {n} v from to sized r low high =
    record { rises = λ s. rise s (equal s v) refl; within = λ s. stay s (equal s v) refl }
  where
    past : (l : List ℕ) (i a : ℕ) → length l ≤ i → 0 ≡ get_or (set l i a) i 0
    past l i a h = get_or_past (set l i a) i 0 (rw length-set h)

    rise : (s : ℕ) (t : Bool) → equal s v ≡ t → get_or (set froms v from) s 0 ≤ get_or (set tos v to) s 0
    rise s false e =
        let n = equal-false _ _ e in
        rw (get_or-set_other froms v s from 0 n, get_or-set_other tos v s to 0 n) (r.rises s)
    rise s true e = rw (equal-true _ _ e) (inside (below v (length froms)) refl (below v (length tos)) refl)
      where
        inside : (t : Bool) → below v (length froms) ≡ t → (u : Bool) → below v (length tos) ≡ u → get_or (set froms v from) v 0 ≤ get_or (set tos v to) v 0
        inside true a true b = rw (get_or-set_same froms v from 0 (below_true _ _ a), get_or-set_same tos v to 0 (below_true _ _ b)) low
        inside true a false b = let x = below_true _ _ a in let y = below_false _ _ b in absurd (omega arith)
        inside false a u b = let z = past froms v from (below_false _ _ a) in omega arith

    stay : (s : ℕ) (t : Bool) → equal s v ≡ t → get_or (set tos v to) s 0 ≤ n
    stay s false e = rw (get_or-set_other tos v s to 0 (equal-false _ _ e)) (r.within s)
    stay s true e = rw (equal-true _ _ e) (inside (below v (length tos)) refl)
      where
        inside : (u : Bool) → below v (length tos) ≡ u → get_or (set tos v to) v 0 ≤ n
        inside true b = rw (get_or-set_same tos v to 0 (below_true _ _ b)) high
        inside false b = let z = past tos v to (below_false _ _ b) in omega arith

module _ {f syms : List ℕ} {at : ℕ} {row : Row} {froms tos sets pool froms' tos' sets' : List ℕ} {k : ℕ} {answer : Passed} (kind : k ≡ (statement_at f at).kind) where
  -- a $f
  pub processes-float : k ≡ 2 → length froms ≤ length tos → row.from ≤ row.to
      → BindsFloat f at row froms tos sets froms' tos' sets' answer → ProcessesHyp f syms at row froms tos sets pool froms' tos' sets' answer
  unfolding pick
  processes-float two sized low b =
      record {
        ranged = λ n r high. rw (b.froms_is, b.tos_is) (tried n r high (equal row.head (typecode (statement_at f at))));
        froms_sized = ap length b.froms_is ∙ length-pick (equal row.head (typecode (statement_at f at))) _ _ (length-set froms _ _);
        tos_sized = ap length b.tos_is ∙ length-pick (equal row.head (typecode (statement_at f at))) _ _ (length-set tos _ _);
        sets_sized = ap length b.sets_is ∙ length-pick (equal row.head (typecode (statement_at f at))) _ _ (stored-length sets _ _);
        float = λ e. b;
        essential = λ n. absurd (n (sym kind ∙ two));
      }
    where
      tried : (n : ℕ) → Ranged froms tos n → row.to ≤ n → (t : Bool)
          → Ranged (pick t (set froms (floated (statement_at f at) % 65536) row.from) froms) (pick t (set tos (floated (statement_at f at) % 65536) row.to) tos) n
      tried n r high true = ranged-set (floated (statement_at f at) % 65536) row.from row.to sized r low high
      tried n r high false = r

-- a $e
pub processes-essential : {f syms : List ℕ} {at : ℕ} {row : Row} {froms tos sets pool : List ℕ} {k : ℕ} {answer : Passed} → k ≡ (statement_at f at).kind → (k ≡ 2 → ⊥)
    → ChecksEssential f syms at row froms tos pool answer → ProcessesHyp f syms at row froms tos sets pool froms tos sets answer
processes-essential kind not-two c =
    record { ranged = λ n r high. r; froms_sized = refl; tos_sized = refl; sets_sized = refl; float = λ e. absurd (not-two (kind ∙ e)); essential = λ n. (c, (refl, (refl, refl))) }

pub ranged-imaged : {froms tos : List ℕ} {n : ℕ} (f syms xs : List ℕ) → Ranged froms tos n → Imaged f syms froms tos n xs
ranged-imaged f syms xs r = record { rises = λ s m v. r.rises s; within = λ s m v. r.within s }

pub ranged-more : {froms tos : List ℕ} {n m : ℕ} → n ≤ m → Ranged froms tos n → Ranged froms tos m
ranged-more l r = record { rises = r.rises; within = λ s. let w = r.within s in omega arith }
