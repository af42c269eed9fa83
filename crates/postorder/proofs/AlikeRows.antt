-- Where a record and all records before it are alike, the rows of the table say the same of it.
use Rattle.std.proofs.Common.{None}
use Prim.Native.Nat.{ℕ, zero, suc, ◌<◌}
use mathlib.Core.Path.{◌≡◌, refl, sym, ap, ◌∙◌}
use mathlib.Core.Bool.{Bool, true, false}
use mathlib.Core.List.{List, [], ◌∷◌, ◌++◌}
use native.Mathlib.Omega.{arith}
use lib.ListN.{length, get_or}
use Rattle.frames.specs.Logic.{below, equal, pick, both, all, any}
use Rattle.frames.specs.Layout.{kind_at, next_at, supposes, class_at, rest_at, hyps_at, pairs_at, symbols_at, typecode_at, variable_at}
use Rattle.frames.specs.Table.{cut_short, off_layout, bad_record, too_many, named, used, bad_symbol, bad_label, class_of, constant, variable, active, defined, variables, bad_numbers, bad_reference, float_of, float_below, has_float, symbol_given, all_given, lacks_float, second_float, bad_assertion, bad_frame, no_proof}
use Rattle.frames.specs.Verdict.{fault_at}
use Rattle.frames.proofs.Chains.{below-no, below_true, below_false, one_later, one_last, unless-skip, equal-true}
use Rattle.frames.proofs.Loops.{get_or_past}
use Rattle.frames.proofs.Fine.{Faultless}
use Rattle.postorder.proofs.Alike.{Alike, length-alike, kind-alike, hyp-count-alike, pair-count-alike, listed-count-alike, hyps-alike, pairs-alike, symbols-alike, lists-inside, rest-size-alike, rest-alike, scope-alike, class-alike}

-- the members of two lists are related, one by one
pub data Both (R : ℕ → ℕ → Type 0) : List ℕ → List ℕ → Type 0 where
  none : Both R [] []
  also : {x y : ℕ} {xs ys : List ℕ} → R x y → Both R xs ys → Both R (x ∷ xs) (y ∷ ys)

module _ {R : ℕ → ℕ → Type 0} where
  pub both-length : {xs ys : List ℕ} → Both R xs ys → length xs ≡ length ys
  both-length none = refl
  both-length (also r b) = ap suc (both-length b)

  pub both-more : {xs ys : List ℕ} {x y : ℕ} → Both R xs ys → R x y → Both R (xs ++ (x ∷ [])) (ys ++ (y ∷ []))
  both-more none r = also r none
  both-more (also s b) r = also s (both-more b r)

  pub both_at : {xs ys : List ℕ} → Both R xs ys → (i : ℕ) → i < length xs → R (get_or xs i 0) (get_or ys i 0)
  both_at none i l = absurd (omega arith)
  both_at (also r b) zero l = r
  both_at (also r b) (suc i) l = both_at b i (omega arith)

  any-both : (p q : ℕ → Bool) {xs ys : List ℕ} → ((x y : ℕ) → R x y → p x ≡ q y) → Both R xs ys → any p xs ≡ any q ys
  unfolding any
  any-both p q f none = refl
  any-both p q f (also {x} {y} r b) = cc (f x y r, any-both p q f b)

both-when : (t : Bool) {u v : Bool} → (t ≡ true → u ≡ v) → both t u ≡ both t v
unfolding both
both-when true e = e refl
both-when false e = refl

pick-when : {A : Type 0} (t : Bool) {x y : A} (z : A) → (t ≡ true → x ≡ y) → pick t x z ≡ pick t y z
unfolding pick
pick-when true z e = e refl
pick-when false z e = refl

all_same : {A : Type 0} (p q : A → Bool) (xs : List A) → ((x : A) → p x ≡ q x) → all p xs ≡ all q xs
unfolding all
all_same p q [] f = refl
all_same p q (x ∷ xs) f = cc (f x, all_same p q xs f)

any_same : {A : Type 0} (p q : A → Bool) (xs : List A) → ((x : A) → p x ≡ q x) → any p xs ≡ any q xs
unfolding any
any_same p q [] f = refl
any_same p q (x ∷ xs) f = cc (f x, any_same p q xs f)

-- two symbols that are alike
pub record AlikeSymbol (f g : List ℕ) (x y : ℕ) : Type 0 where
  pub alike : Alike f x g y
  pub kind : kind_at f x ≡ 1

pub record AlikeStatement (f g : List ℕ) (x y : ℕ) : Type 0 where
  pub alike : Alike f x g y

-- row 1 of a record that is alike
class-row : {f : List ℕ} {o : ℕ} {g : List ℕ} {o' : ℕ} → Alike f o g o' → both (equal (kind_at g o') 1) (below 1 (class_at g o')) ≡ false
class-row {f} {o} {g} {o'} a =
    rw (← kind-alike a)
    (sym (both-when (equal (kind_at f o) 1) (λ t. cc (class-alike a (equal-true _ _ t)))) ∙ a.formed.class)

pub record-alike : {f : List ℕ} {o : ℕ} {g : List ℕ} {o' : ℕ} → Alike f o g o' → bad_record g o' ≡ false
unfolding bad_record cut_short off_layout next_at
record-alike {f} {o} {g} {o'} a =
    let w = a.formed in
    sym (one_later _ (below-no (omega (arith, a.inside, length-alike a)))
    (one_later _ (below-no (omega (arith, w.long, length-alike a)))
    (one_later _ (rw (← kind-alike a) w.kind)
    (one_later _ (class-row a)
    (one_later _ (sym (one_later _ (below-no (lists-inside a))
    (one_later _ (rw (← kind-alike a, ← listed-count-alike a) w.symbols)
    (one_later _ (rw (← kind-alike a, ← rest-size-alike a) w.rest) (one_last refl)))))
    (one_last refl))))))

module _ (f g : List ℕ) (zero-alike : Alike f 0 g 0) {syms syms' stmts stmts' : List ℕ} (S : Both (AlikeSymbol f g) syms syms')
    (T : Both (AlikeStatement f g) stmts stmts') where
  -- the record of a statement number, also where there is none
  at-alike : (s : ℕ) → Alike f (get_or stmts s 0) g (get_or stmts' s 0)
  at-alike s = tried (below s (length stmts)) refl
    where
      tried : (t : Bool) → below s (length stmts) ≡ t → Alike f (get_or stmts s 0) g (get_or stmts' s 0)
      tried true e = (both_at T s (below_true _ _ e)).alike
      tried false e =
          let l = below_false _ _ e in
          rw (← get_or_past stmts s 0 l, ← get_or_past stmts' s 0 (omega (arith, both-length T))) zero-alike

  class_same : (s : ℕ) → class_of f syms s ≡ class_of g syms' s
  unfolding class_of
  class_same s =
      rw (← both-length S)
      (pick-when (below s (length syms)) 2 (λ t. let r = both_at S s (below_true _ _ t) in class-alike r.alike r.kind))

  constant-same : (s : ℕ) → constant f syms s ≡ constant g syms' s
  unfolding constant
  constant-same s = cc (class_same s)

  variable-same : (s : ℕ) → variable f syms s ≡ variable g syms' s
  unfolding variable
  variable-same s = cc (class_same s)

  used-names : (text : List ℕ) → used f syms text ≡ used g syms' text
  unfolding used named
  used-names text = any-both (named f text) (named g text) (λ x y r. cc (rest-alike r.alike)) S

  used-labels : (text : List ℕ) → used f stmts text ≡ used g stmts' text
  unfolding used named
  used-labels text = any-both (named f text) (named g text) (λ x y r. cc (rest-alike r.alike)) T

  active-same : (p s : ℕ) → active f stmts p s ≡ active g stmts' p s
  unfolding active
  active-same p s =
      let a = at-alike s in
      rw (← kind-alike a)
      (ap (λ (t : Bool). both (below s p) t) (both-when (supposes (kind_at f (get_or stmts s 0))) (λ e. cc (scope-alike a e))))

  float_same : (v h : ℕ) → float_of f stmts v h ≡ float_of g stmts' v h
  unfolding float_of variable_at
  float_same v h = let a = at-alike h in cc (kind-alike a, symbols-alike a)

  has_same : (hyps : List ℕ) (limit v : ℕ) → has_float f stmts hyps limit v ≡ has_float g stmts' hyps limit v
  unfolding has_float float_below
  has_same hyps limit v = any_same (float_below f stmts limit v) (float_below g stmts' limit v) hyps (λ h. cc (float_same v h))

  all-given-same : (hyps : List ℕ) (limit : ℕ) (xs : List ℕ) → all_given f syms stmts hyps limit xs ≡ all_given g syms' stmts' hyps limit xs
  unfolding all_given symbol_given
  all-given-same hyps limit xs =
      all_same (symbol_given f syms stmts hyps limit) (symbol_given g syms' stmts' hyps limit) xs (λ s. cc (variable-same s, has_same hyps limit s))

  lacks-same : (hyps : List ℕ) (h : ℕ) → lacks_float f syms stmts hyps h ≡ lacks_float g syms' stmts' hyps h
  unfolding lacks_float
  lacks-same hyps h =
      let a = at-alike h in
      cc (kind-alike a, symbols-alike a, all-given-same hyps h (symbols_at f (get_or stmts h 0)))

  second-same : (hyps : List ℕ) (h : ℕ) → second_float f stmts hyps h ≡ second_float g stmts' hyps h
  unfolding second_float variable_at
  second-same hyps h =
      let a = at-alike h in
      cc (kind-alike a, symbols-alike a, has_same hyps h (get_or (symbols_at f (get_or stmts h 0)) 1 0))

  module _ {o o' : ℕ} (a : Alike f o g o') where
    limit-same : too_many f syms stmts o ≡ too_many g syms' stmts' o'
    unfolding too_many
    limit-same =
        cc (kind-alike a, both-length S, both-length T, hyp-count-alike a, pair-count-alike a, listed-count-alike a, rest-size-alike a)

    symbol-same : bad_symbol f syms o ≡ bad_symbol g syms' o'
    unfolding bad_symbol
    symbol-same = cc (kind-alike a, rest-alike a, used-names (rest_at f o))

    label_same : bad_label f stmts o ≡ bad_label g stmts' o'
    unfolding bad_label
    label_same = cc (kind-alike a, rest-alike a, used-labels (rest_at f o))

    numbers_same : bad_numbers f syms stmts o ≡ bad_numbers g syms' stmts' o'
    unfolding bad_numbers defined variables typecode_at variable_at
    numbers_same =
        cc (
          kind-alike a,
          symbols-alike a,
          pairs-alike a,
          hyps-alike a,
          both-length T,
          all_same (defined syms) (defined syms') (symbols_at f o) (λ s. cc (both-length S)),
          constant-same (get_or (symbols_at f o) 0 0),
          variable-same (get_or (symbols_at f o) 1 0),
          all_same (variables f syms) (variables g syms') (pairs_at f o) (λ q. cc (variable-same q.0, variable-same q.1)),
          all_same (active f stmts (length stmts)) (active g stmts' (length stmts)) (hyps_at f o) (active-same (length stmts)),
        )

    reference-same : bad_reference f syms stmts o ≡ bad_reference g syms' stmts' o'
    unfolding bad_reference
    reference-same = cc (kind-alike a, numbers_same)

    assertion-same : bad_assertion f syms stmts o ≡ bad_assertion g syms' stmts' o'
    unfolding bad_assertion
    assertion-same =
        cc (
          symbols-alike a,
          pairs-alike a,
          hyps-alike a,
          both-length T,
          all-given-same (hyps_at f o) (length stmts) (symbols_at f o),
          any_same (lacks_float f syms stmts (hyps_at f o)) (lacks_float g syms' stmts' (hyps_at f o)) (hyps_at f o) (lacks-same (hyps_at f o)),
          any_same (second_float f stmts (hyps_at f o)) (second_float g stmts' (hyps_at f o)) (hyps_at f o) (second-same (hyps_at f o)),
        )

    frame_same : bad_frame f syms stmts o ≡ bad_frame g syms' stmts' o'
    unfolding bad_frame
    frame_same = cc (kind-alike a, assertion-same)

    proof-same : (owed : Bool) → no_proof f owed o ≡ no_proof g owed o'
    unfolding no_proof
    proof-same owed = cc (kind-alike a)

    -- so a record that is alike has no fault either
    pub fine-alike : (owed : Bool) → Faultless f syms stmts owed o → fault_at g syms' stmts' owed o' ≡ None
    unfolding fault_at
    fine-alike owed n =
        sym (unless-skip _ (record-alike a)
        (unless-skip _ (sym limit-same ∙ n.limit_row)
        (unless-skip _ (sym symbol-same ∙ n.symbol_row)
        (unless-skip _ (sym label_same ∙ n.label_row)
        (unless-skip _ (sym reference-same ∙ n.reference_row)
        (unless-skip _ (sym frame_same ∙ n.frame_row)
        (unless-skip _ (sym (proof-same owed) ∙ n.proof_row) refl)))))))
