-- What a step is: the code's tests are those of the definition, in its order. Each law is one return of the code.
use Rattle.std.proofs.Common.{Some, None, Err, is_some as found_some}
use Prim.Native.Nat.{ℕ, ◌≤◌, ◌<◌}
use mathlib.Core.Path.{◌≡◌, refl, sym, ◌∙◌, ap, ap₂}
use mathlib.Core.Bool.{Bool, true, false}
use mathlib.Core.Logic.{◌⊎◌, inl, inr}
use mathlib.Core.Option.{Option, none, some}
use mathlib.Core.List.{List}
use native.Mathlib.Omega.{arith}
use lib.ListN.{length, get_or}
use Rattle.frames.specs.Logic.{equal, both, no}
use Rattle.frames.specs.Layout.{supposes}
use Rattle.frames.specs.Table.{within}
use Rattle.frames.specs.Database.{Statement, Database, database, statement_at}
use Rattle.frames.specs.Facts.{statement_of}
use Rattle.frames.specs.declared.numbers.PlaceNo.{PlaceNo}
use Rattle.frames.specs.declared.numbers.StatementNo.{StatementNo}
use Rattle.frames.specs.Search.{FoundStatement}
use Rattle.frames.proofs.Chains.{pick_first, pick_second, either_first, either_second, equal-yes, equal-no, equal-true, equal-false, below-yes, below-no, at_most-yes, at_most-no}
use Rattle.frames.proofs.Tells.{true-not-false, either-false}
use Rattle.facts.proofs.Decoded.{supposes-kind}
use Rattle.facts.proofs.GoodFacts.{good-facts}
use Rattle.machine.specs.declared.Refusal.{Refusal}
use Rattle.machine.specs.declared.Refusal.TheVariants.{StepMissing, LocalLabelAmbiguous, ChainBackref, StepUsedBeforeDefinition, StepUsedAfterScope}
use Rattle.machine.specs.Chain.{Result, stop, unless}
use Rattle.machine.specs.Ground.{is_float}
use Rattle.machine.specs.Reading.{split}
use Rattle.machine.specs.Memory.{is_some, place_of}
use Rattle.machine.specs.Prepare.{sought, sought_label, prepare_statement, prepare_found, prepare_local, prepare_named, ambiguous, prepare_normal}
use Rattle.tokens.specs.Signs.{part_or}
use Rattle.resolve.specs.Readied.{Readied, Place, Hypothesis, Frame}
use Rattle.resolve.specs.Locals.{FoundPlace, locals_of, place_found}
use Rattle.resolve.specs.Filed.{Filed}
use Rattle.resolve.specs.Resolve.{statement_found, readied, Supposable, Sensible, Nameable, FindsNamed, FindsLabel, PreparesStatement, PreparesLabel, TellsAmbiguous, PreparesLocal, PreparesToken}
use Rattle.resolve.proofs.Filing.{filed-statement}

chain-stop : {A : Type 0} {t : Bool} {why : Refusal} (rest : Result A) → t ≡ true → unless t why rest ≡ stop why
unfolding unless
chain-stop rest e = rw e refl

chain-skip : {A : Type 0} {t : Bool} {rest : Result A} (why : Refusal) → t ≡ false → unless t why rest ≡ rest
unfolding unless
chain-skip why e = rw e refl

-- the kind and the scope end at an offset as it was read
pub at-offset-kind : (f : List ℕ) {at o k : ℕ} → k ≡ (statement_at f at).kind → at ≡ o → k ≡ (statement_at f o).kind
at-offset-kind f e q = e ∙ ap (λ (x : ℕ). (statement_at f x).kind) q

pub at-offset-end : (f : List ℕ) {at o end : ℕ} → end ≡ (statement_at f at).end → at ≡ o → end ≡ (statement_at f o).end
at-offset-end f e q = e ∙ ap (λ (x : ℕ). (statement_at f x).end) q

-- which kind a statement has that is neither $f nor $e
asserts-kind : (k : ℕ) → 2 ≤ k → k ≤ 5 → supposes k ≡ false → (k ≡ 4) ⊎ (k ≡ 5)
unfolding supposes
asserts-kind k low high e = tried (equal k 4) refl
  where
    tried : (t : Bool) → equal k 4 ≡ t → (k ≡ 4) ⊎ (k ≡ 5)
    tried true q = inl (equal-true k 4 q)
    tried false q =
        let n2 = equal-false k 2 (either-false _ _ e).0 in
        let n3 = equal-false k 3 (either-false _ _ e).1 in
        let n4 = equal-false k 4 q in
        inr (omega arith)

-- a refusal names no statement, and neither does a place
refused-sensible : (db : Database) (p : ℕ) (why : Refusal) → Sensible db p (Err why)
refused-sensible db p why =
    record {
      hypothesis = λ h e. let z : ◌≡◌ {A = ℕ} 0 1 = cc in absurd (omega arith);
      frame = λ a e. let z : ◌≡◌ {A = ℕ} 0 1 = cc in absurd (omega arith);
    }

place-sensible : (db : Database) (p : ℕ) (k : PlaceNo) → Sensible db p (Place k)
place-sensible db p k =
    record {
      hypothesis = λ h e. let z : ◌≡◌ {A = ℕ} 0 1 = cc in absurd (omega arith);
      frame = λ a e. let z : ◌≡◌ {A = ℕ} 0 1 = cc in absurd (omega arith);
    }

module _ (f stmts : List ℕ) (p : ℕ) (s : StatementNo) where
  -- 29
  pub statement-later : p ≤ s.0 → PreparesStatement f stmts p s.0 (Err StepUsedBeforeDefinition)
  unfolding prepare_statement readied
  statement-later l =
      record {
        follows = λ syms room m w i t. chain-stop _ (at_most-yes l);
        sensible = λ syms w i n. refused-sensible (database f) p StepUsedBeforeDefinition;
        nowhere = λ k q. let z : ◌≡◌ {A = ℕ} 0 1 = cc in absurd (omega arith);
      }

  module _ {k e : ℕ} (kind : k ≡ (statement_at f (get_or stmts s.0 0)).kind) (end : e ≡ (statement_at f (get_or stmts s.0 0)).end)
      (before : s.0 < p) where
    module _ {syms : List ℕ} (w : Filed f syms stmts) (there : s.0 < length (database f).statements) where
      kind-is : (statement_of (database f) s.0).kind ≡ k
      kind-is = ap (λ (st : Statement). st.kind) (sym (filed-statement w s.0 there)) ∙ sym kind

      end_is : (statement_of (database f) s.0).end ≡ e
      end_is = ap (λ (st : Statement). st.end) (sym (filed-statement w s.0 there)) ∙ sym end

      scope-is : {t : Bool} → both (equal k 2) (no (within e p)) ≡ t
          → both (is_float (statement_of (database f) s.0)) (no (within (statement_of (database f) s.0).end p)) ≡ t
      unfolding is_float
      scope-is h = ap₂ (λ (x y : ℕ). both (equal x 2) (no (within y p))) kind-is end_is ∙ h

      supposes-is : {t : Bool} → supposes k ≡ t → supposes (statement_of (database f) s.0).kind ≡ t
      supposes-is h = ap supposes kind-is ∙ h

    -- 30
    pub statement-closed : both (equal k 2) (no (within e p)) ≡ true → PreparesStatement f stmts p s.0 (Err StepUsedAfterScope)
    unfolding prepare_statement readied
    statement-closed out =
        record {
          follows = λ syms room m w i t. chain-skip _ (at_most-no before) ∙ chain-stop _ (scope-is w t out);
          sensible = λ syms w i n. refused-sensible (database f) p StepUsedAfterScope;
          nowhere = λ k q. let z : ◌≡◌ {A = ℕ} 0 1 = cc in absurd (omega arith);
        }

    -- a $f or $e
    pub statement-hypothesis : both (equal k 2) (no (within e p)) ≡ false → supposes k ≡ true → PreparesStatement f stmts p s.0 (Hypothesis s)
    unfolding prepare_statement readied
    statement-hypothesis open' h =
        record {
          follows = λ syms room m w i t.
              chain-skip _ (at_most-no before) ∙ (chain-skip _ (scope-is w t open') ∙ sym (pick_first _ (supposes-is w t h) refl));
          sensible = λ syms w i n.
              record {
                hypothesis = λ g q.
                    let same-one : g ≡ s = cc in
                    rw same-one (supposable n (supposes-kind _ (supposes-is w n.there h)));
                frame = λ a q. let z : ◌≡◌ {A = ℕ} 0 1 = cc in absurd (omega arith);
              };
          nowhere = λ k q. let z : ◌≡◌ {A = ℕ} 0 1 = cc in absurd (omega arith);
        }
      where
        supposable : Nameable (database f) p s.0
            → ((statement_of (database f) s.0).kind ≡ 2) ⊎ ((statement_of (database f) s.0).kind ≡ 3) → Supposable (database f) p s.0
        supposable n (inl q) = record { earlier = before; kind = inl q; own = inl q }
        supposable n (inr q) = record { earlier = before; kind = inr q; own = inr (n.own q) }

    -- a $a or $p
    pub statement-frame : both (equal k 2) (no (within e p)) ≡ false → supposes k ≡ false → PreparesStatement f stmts p s.0 (Frame s)
    unfolding prepare_statement readied
    statement-frame open' h =
        record {
          follows = λ syms room m w i t.
              chain-skip _ (at_most-no before) ∙ (chain-skip _ (scope-is w t open') ∙ sym (pick_second _ (supposes-is w t h) refl));
          sensible = λ syms w i n.
              let facts = (good-facts f w.good).statement s.0 n.there in
              record {
                hypothesis = λ g q. let z : ◌≡◌ {A = ℕ} 0 1 = cc in absurd (omega arith);
                frame = λ a q.
                    let same-one : a ≡ s = cc in
                    rw same-one
                    (record { earlier = before; kind = asserts-kind _ facts.kind_low facts.kind_high (supposes-is w n.there h) });
              };
          nowhere = λ k q. let z : ◌≡◌ {A = ℕ} 0 1 = cc in absurd (omega arith);
        }

-- a roster label
module _ {f stmts : List ℕ} {p : ℕ} {label : List ℕ} {r : FoundStatement} (finds : FindsLabel f stmts p label r) where
  pub label-named : {s : StatementNo} {answer : Readied} → r ≡ Some s → PreparesStatement f stmts p s.0 answer
      → PreparesLabel f stmts p label answer
  unfolding prepare_found statement_found
  label-named {s} e prepares =
      record {
        follows = λ syms room m w i.
            ap (prepare_found (database f) p room m) (finds.finds syms w i ∙ ap statement_found e)
            ∙ prepares.follows syms room m w i (finds.nameable syms s w i e).there;
        sensible = λ syms w i. prepares.sensible syms w i (finds.nameable syms s w i e);
        nowhere = prepares.nowhere;
      }

  -- 25
  pub label-missing : r ≡ None → PreparesLabel f stmts p label (Err StepMissing)
  unfolding prepare_found statement_found readied
  label-missing e =
      record {
        follows = λ syms room m w i. ap (prepare_found (database f) p room m) (finds.finds syms w i ∙ ap statement_found e);
        sensible = λ syms w i. refused-sensible (database f) p StepMissing;
        nowhere = λ k q. let z : ◌≡◌ {A = ℕ} 0 1 = cc in absurd (omega arith);
      }

-- whether a local label is that of a $f, $a or $p
ambiguous-some : (db : Database) (o : Option (List ℕ)) → is_some o ≡ true → ambiguous db o ≡ is_some (sought db (part_or o))
unfolding ambiguous part_or is_some
ambiguous-some db none e = absurd (true-not-false e refl)
ambiguous-some db (some l) e = refl

ambiguous-none : (db : Database) (o : Option (List ℕ)) → is_some o ≡ false → ambiguous db o ≡ false
unfolding ambiguous is_some
ambiguous-none db none e = refl
ambiguous-none db (some l) e = absurd (true-not-false refl e)

module _ (f stmts token : List ℕ) where
  module _ {local : List ℕ} (given : is_some (split token).local ≡ true) (is : local ≡ part_or (split token).local) {r : FoundStatement}
      (finds : FindsNamed f stmts local r) where
    tells : {t : Bool} → is_some (statement_found r) ≡ t → TellsAmbiguous f stmts token t
    tells h =
        record {
          tells = λ syms w.
              sym (ambiguous-some (database f) (split token).local given
              ∙ (ap (λ (l : List ℕ). is_some (sought (database f) l)) (sym is) ∙ (ap is_some (finds.finds syms w) ∙ h)));
        }

    pub tells-ambiguous : {s : StatementNo} → r ≡ Some s → TellsAmbiguous f stmts token true
    unfolding statement_found is_some
    tells-ambiguous e = tells (ap (λ (x : FoundStatement). is_some (statement_found x)) e)

    pub tells-new : r ≡ None → TellsAmbiguous f stmts token false
    unfolding statement_found is_some
    tells-new e = tells (ap (λ (x : FoundStatement). is_some (statement_found x)) e)

    pub tells-sought : TellsAmbiguous f stmts token (found_some r)
    tells-sought = by r refl
      where
        by : (x : FoundStatement) → r ≡ x → TellsAmbiguous f stmts token (found_some r)
        by (Some s) e = rw e (tells-ambiguous e)
        by None e = rw e (tells-new e)

  pub tells_none : is_some (split token).local ≡ false → TellsAmbiguous f stmts token false
  tells_none e = record { tells = λ syms w. sym (ambiguous-none (database f) (split token).local e) }

-- the label of a normal token that is no statement's
module _ (given : Bool) (label text table : List ℕ) (count : ℕ) where
  -- 28
  pub local-given : given ≡ true → PreparesLocal given label text table count (Err ChainBackref)
  unfolding readied
  local-given e =
      record {
        follows = λ db room m l. chain-stop _ e;
        sensible = λ db p. refused-sensible db p ChainBackref;
      }

  module _ (new : given ≡ false) {r : FoundPlace} (finds : place_of label (locals_of text table count) ≡ place_found r) where
    pub local-there : {k : PlaceNo} → r ≡ Some k → PreparesLocal given label text table count (Place k)
    unfolding readied prepare_local place_found
    local-there {k} e =
        record {
          follows = λ db room m l. chain-skip _ new ∙ ap (prepare_local m) (ap (place_of label) l ∙ (finds ∙ ap place_found e));
          sensible = λ db p. place-sensible db p k;
        }

    -- 25
    pub local-missing : r ≡ None → PreparesLocal given label text table count (Err StepMissing)
    unfolding readied prepare_local place_found
    local-missing e =
        record {
          follows = λ db room m l. chain-skip _ new ∙ ap (prepare_local m) (ap (place_of label) l ∙ (finds ∙ ap place_found e));
          sensible = λ db p. refused-sensible db p StepMissing;
        }

-- a normal token
module _ {f stmts : List ℕ} (p : ℕ) {token : List ℕ} (text table : List ℕ) (count : ℕ) {t : Bool} (tells : TellsAmbiguous f stmts token t) where
  -- 26
  pub token-ambiguous : t ≡ true → PreparesToken f stmts p token text table count (Err LocalLabelAmbiguous)
  unfolding prepare_normal readied
  token-ambiguous e =
      record {
        follows = λ syms room m w i l. chain-stop _ (sym (tells.tells syms w) ∙ e);
        sensible = λ syms w i. refused-sensible (database f) p LocalLabelAmbiguous;
      }

  module _ (new : t ≡ false) {label : List ℕ} (is : label ≡ (split token).label) {r : FoundStatement} (finds : FindsLabel f stmts p label r) where
    sought-is : (syms : List ℕ) → Filed f syms stmts → p < length (database f).statements
        → sought_label (database f) p (split token).label ≡ statement_found r
    sought-is syms w i = ap (sought_label (database f) p) (sym is) ∙ finds.finds syms w i

    -- the label is a statement's
    pub token-named : {s : StatementNo} {answer : Readied} → r ≡ Some s → PreparesStatement f stmts p s.0 answer
        → PreparesToken f stmts p token text table count answer
    unfolding prepare_normal prepare_named statement_found
    token-named {s} e prepares =
        record {
          follows = λ syms room m w i l.
              chain-skip _ (sym (tells.tells syms w) ∙ new)
              ∙ (ap (prepare_named (database f) p room m (split token)) (sought-is syms w i ∙ ap statement_found e)
              ∙ prepares.follows syms room m w i (finds.nameable syms s w i e).there);
          sensible = λ syms w i. prepares.sensible syms w i (finds.nameable syms s w i e);
        }

    -- it is none's
    pub token-local : {given : Bool} {answer : Readied} → r ≡ None → given ≡ is_some (split token).local
        → PreparesLocal given label text table count answer → PreparesToken f stmts p token text table count answer
    unfolding prepare_normal prepare_named statement_found
    token-local {given} e g prepares =
        record {
          follows = λ syms room m w i l.
              chain-skip _ (sym (tells.tells syms w) ∙ new)
              ∙ (ap (prepare_named (database f) p room m (split token)) (sought-is syms w i ∙ ap statement_found e)
              ∙ rw (← g, ← is) (prepares.follows (database f) room m l));
          sensible = λ syms w i. prepares.sensible (database f) p;
        }
