-- The facts about the statements of a good file's database. Each follows from the row that judged the statement's record, with
-- the symbols and the statements that were before it (`History`), by what the row's test means (`Meaning`). That no two listed
-- $f have one variable: of two such, the later one would have the earlier before it, and row 6 forbids that.
use Prim.Native.Nat.{ℕ, ◌≤◌, ◌<◌}
use mathlib.Core.Path.{◌≡◌, refl, sym}
use mathlib.Core.Bool.{true, false}
use mathlib.Core.Logic.{◌⊎◌, inl, inr}
use mathlib.Core.List.{List}
use native.Mathlib.Omega.{arith}
use lib.ListN.{length, take, drop, get_or, length-take}
use lib.Seq.{get_or-take, length-take-le}
use Rattle.frames.specs.Layout.{kind_at, next_at, asserts, rest_from, rest_size, rest_at, hyps_at, symbols_at, typecode_at, variable_at}
use Rattle.frames.specs.Table.{label_byte, variables, active, float_of, float_below, has_float, lacks_float, second_float, equal_members}
use Rattle.frames.specs.Verdict.{Index}
use Rattle.frames.specs.Database.{statement_at, decode}
use Rattle.frames.specs.Facts.{◌∈◌, statement_of, typecode, floated, Variable, Active, Floats, Given, StatementFacts}
use Rattle.frames.proofs.Chains.{below-yes, equal-yes, equal-true, equal-false, both-second}
use Rattle.frames.proofs.Tells.{true-not-false, both_true, both_false, no_false, all-member, any-member}
use Rattle.frames.proofs.Fine.{WellFormed, WithinLimits, record-well-formed, limits-kept}
use Rattle.facts.proofs.Rows.{Refers, Framed, label-fresh, reference-good, frame-good}
use Rattle.facts.proofs.History.{StatementJudged, ProofRead, History, judged-known}
use Rattle.facts.proofs.Texts.{rest-sized, label-byte, fresh-differ}
use Rattle.facts.proofs.Decoded.{text-read, symbols-length, statement-read, kind-range, asserts-yes, asserts-no}
use Rattle.facts.proofs.Shapes
use Rattle.facts.proofs.Meaning.{constant-is, variable-is, active-is, is-floats, all-given-is}

-- the offset of statement p
abbrev offset : Index → ℕ → ℕ
offset ix p = get_or ix.statements p 0

module _ (f : List ℕ) (ix : Index) (o : ℕ) (past : History f ix.symbols ix.statements false o) where
  -- at most 4,096 statements: the last one had room
  pub statements-few : length ix.statements ≤ 4096
  statements-few =
      Shapes.had-room ix.statements 4096
      (λ p h. let j = past.statement p h in (limits-kept f _ _ _ j.faultless.limit_row).statement_room j.kind)

  -- no two labels are the same
  pub labels_apart : (p q : ℕ) → p < length ix.statements → q < length ix.statements
      → rest_at f (offset ix p) ≡ rest_at f (offset ix q) → p ≡ q
  labels_apart =
      fresh-differ f ix.statements
      (λ i h. let j = past.statement i h in (label-fresh f _ _ j.faultless.label_row j.kind).unused)

  module _ (p : ℕ) (h : p < length ix.statements) where
    -- the rows that judged it
    judged : StatementJudged f ix.symbols ix.statements p
    judged = past.statement p h

    well : WellFormed f (offset ix p)
    well = record-well-formed f (offset ix p) judged.faultless.record_row

    limits : WithinLimits f (take judged.count ix.symbols) (take p ix.statements) (offset ix p)
    limits = limits-kept f _ _ _ judged.faultless.limit_row

    refers : Refers f (take judged.count ix.symbols) (take p ix.statements) (offset ix p)
    refers = reference-good f _ _ _ judged.faultless.reference_row judged.kind

    framed : asserts (kind_at f (offset ix p)) ≡ true
        → Framed f (take judged.count ix.symbols) (take p ix.statements) (offset ix p)
    framed a = frame-good f _ _ _ judged.faultless.frame_row a

    -- the statements before it are as many as its number
    before : length (take p ix.statements) ≡ p
    before = length-take-le p ix.statements (omega arith)

    pub listed-active : (g : ℕ) → g ∈ hyps_at f (offset ix p) → Active (decode f ix) p g
    listed-active g m = active-is f ix p (omega arith) g (rw before at (all-member _ _ refers.active m))

    pub claim-bound : 4 ≤ kind_at f (offset ix p) → (v : ℕ) → v ∈ symbols_at f (offset ix p)
        → Variable (decode f ix) v → Given (decode f ix) (hyps_at f (offset ix p)) p v
    claim-bound k v m var =
        let a = asserts-yes (kind_at f (offset ix p)) k (kind-range _ judged.kind).1 in
        all-given-is f ix p (omega arith) judged.count _ p _ v judged.within (omega arith) (rw before at (framed a).claim) m
        (judged-known f ix.symbols ix.statements p v judged m) var

    -- what row 6 says of a listed hypothesis
    not-lacking : (g : ℕ) → g ∈ hyps_at f (offset ix p)
        → lacks_float f (take judged.count ix.symbols) (take p ix.statements) (hyps_at f (offset ix p)) g ≡ false
    not-lacking g m = any-member _ _ (framed (Shapes.hyp-asserts f _ g m)).essentials m

    not-second : (g : ℕ) → g ∈ hyps_at f (offset ix p)
        → second_float f (take p ix.statements) (hyps_at f (offset ix p)) g ≡ false
    not-second g m = any-member _ _ (framed (Shapes.hyp-asserts f _ g m)).floats m

    pub essential-bound : (e : ℕ) → e ∈ hyps_at f (offset ix p) → (statement_of (decode f ix) e).kind ≡ 3 → (v : ℕ)
        → v ∈ (statement_of (decode f ix) e).symbols → Variable (decode f ix) v
        → Given (decode f ix) (hyps_at f (offset ix p)) e v
    unfolding lacks_float statement_at
    essential-bound e m k v n var =
        let l = (listed-active e m).earlier in
        let read = statement-read f ix e (omega arith) in
        let front = get_or-take p ix.statements e 0 l in
        let k : kind_at f (offset ix e) ≡ 3 = rw read at k in
        let n : v ∈ symbols_at f (offset ix e) = rw read at n in
        all-given-is f ix p (omega arith) judged.count _ e _ v judged.within (omega arith)
        (no_false _ (both_false _ _ (rw front at (not-lacking e m)) (equal-yes k))) n (judged.known e v l n) var

    -- of two listed $f of one variable neither is the later
    float-first : (g g' v : ℕ) → g ∈ hyps_at f (offset ix p) → g' ∈ hyps_at f (offset ix p)
        → Floats (decode f ix) v g → Floats (decode f ix) v g' → g' < g → ⊥
    unfolding second_float has_float float_below float_of
    float-first g g' v m m' a b l =
        let mine = both_true _ _ (is-floats f ix p (omega arith) v g (listed-active g m).earlier a) in
        let other = is-floats f ix p (omega arith) v g' (listed-active g' m').earlier b in
        let e : variable_at f (get_or (take p ix.statements) g 0) ≡ v = equal-true _ _ mine.1 in
        let free = both_false _ _ (not-second g m) mine.0 in
        true-not-false (sym (both-second (below-yes l) (rw e (sym other)))) (any-member _ _ free m')

    pub one-listed : (g g' v : ℕ) → g ∈ hyps_at f (offset ix p) → g' ∈ hyps_at f (offset ix p)
        → Floats (decode f ix) v g → Floats (decode f ix) v g' → g ≡ g'
    one-listed g g' v m m' a b =
        let not_earlier : g < g' → ⊥ = float-first g' g v m' m b a in
        let not-later : g' < g → ⊥ = float-first g g' v m m' a b in
        omega arith

    -- the proof of a $p has been read
    pub proof-read : kind_at f (offset ix p) ≡ 5 → ProofRead f (next_at f (offset ix p))
    proof-read k = here (past.proof p h k)
      where
        here : ProofRead f (next_at f (offset ix p)) ⊎ ((next_at f (offset ix p) ≡ o) × (false ≡ true))
            → ProofRead f (next_at f (offset ix p))
        here (inl r) = r
        here (inr e) = absurd (true-not-false e.1 refl)

    pub text-fits : kind_at f (offset ix p) ≡ 5 → length (rest_at f (next_at f (offset ix p))) ≤ 65536
    unfolding rest_at
    text-fits k =
        let next = next_at f (offset ix p) in
        omega (arith, length-take (rest_size f next) (drop (rest_from f next) f), (proof-read k).size)

    -- the record of each statement
    pub statement-record : StatementFacts (decode f ix) p (statement_at f (offset ix p))
    unfolding statement_at typecode floated typecode_at variable_at variables equal_members
    statement-record =
        let range = kind-range (kind_at f (offset ix p)) judged.kind in
        let size = rest-sized f (offset ix p) well (λ e. omega arith) in
        let fresh = label-fresh f _ _ judged.faultless.label_row judged.kind in
        record {
          kind_low = range.0;
          kind_high = range.1;
          label_some = size.some;
          label_size = size.most;
          label_bytes = λ b m. label-byte b (all-member label_byte _ fresh.bytes m);
          symbols_some = Shapes.symbols_some f (offset ix p) well range.0 range.1;
          symbols_few = Shapes.symbols-most f (offset ix p) limits.listed;
          float_symbols = Shapes.float-two f (offset ix p);
          hyps_few = rw (Shapes.hyps-count f (offset ix p)) limits.hyps;
          pairs_few = rw (Shapes.pairs-count f (offset ix p)) limits.pairs;
          no_hyps = λ k. Shapes.hyps-none f (offset ix p) (asserts-no _ k);
          no_pairs = λ k. Shapes.pairs-none f (offset ix p) (asserts-no _ k);
          symbols_defined = λ s m. rw (symbols-length f ix) (omega (arith, judged.within, judged-known f ix.symbols ix.statements p s judged m));
          typecode_constant = constant-is f ix judged.count _ refers.typecode;
          float_variable = λ k. variable-is f ix judged.count _ (refers.float k);
          pair_first = λ q m. variable-is f ix judged.count _ (both_true _ _ (all-member _ _ refers.pairs m)).0;
          pair_second = λ q m. variable-is f ix judged.count _ (both_true _ _ (all-member _ _ refers.pairs m)).1;
          pair_differs = λ q m. equal-false _ _ (any-member equal_members _ (framed (Shapes.pair-asserts f (offset ix p) q m)).pairs m);
          hyps_rise = Shapes.rising-strict 0 _ refers.rises;
          hyps_active = listed-active;
          claim_given = claim-bound;
          essential_given = essential-bound;
          one_float = one-listed;
          text_size = λ k. rw (text-read f (offset ix p) k) (text-fits k);
        }
