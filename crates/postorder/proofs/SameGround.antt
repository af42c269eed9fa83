-- Databases that are the same but for one proof text: the same derivations, the same variables at the start, the same long forms.
use Prim.Native.Nat.{ℕ}
use mathlib.Core.Path.{◌≡◌, refl, sym, ◌∙◌}
use mathlib.Core.List.{List, [], ◌∷◌, map}
use Rattle.book.specs.Book.{Expression, Frame, Substitution, substituted, under, Keeps, Tree, leaf, node, Forest, empty, and, Derives, supposed, applied, DeriveAll, nothing, more}
use Rattle.frames.specs.Database.{Database}
use Rattle.frames.specs.Facts.{statement_of, typecode, floated, Active}
use Rattle.machine.specs.Ground.{is_variable, is_float, expression, expression_of, mandatory, frame_pairs, frame_of, MaySuppose, MayApply, ground}
use Rattle.machine.specs.Apply.{label_of}
use Rattle.machine.specs.Run.{first_variables}
use Rattle.machine.proofs.Bound.{same-expression}
use Rattle.postorder.specs.LongForm.{post_order, following, joined, long_text}
use Rattle.postorder.specs.SameBut.{SameBut}
use Rattle.postorder.proofs.Trees.{Covered}

module _ (db db' : Database) (p : ℕ) (text : List ℕ) (same : SameBut db db' p text) where
  variable-same : (s : ℕ) → is_variable db' s ≡ is_variable db s
  unfolding is_variable
  variable-same s = cc (same.symbol s).class

  float_same : (s : ℕ) → is_float (statement_of db' s) ≡ is_float (statement_of db s)
  unfolding is_float
  float_same s = cc (same.statement s).kind

  floated-same : (s : ℕ) → floated (statement_of db' s) ≡ floated (statement_of db s)
  unfolding floated
  floated-same s = cc (same.statement s).symbols

  pub expression-same : (s : ℕ) → expression_of db' s ≡ expression_of db s
  unfolding expression_of expression typecode
  expression-same s = same-expression (cc (same.statement s).symbols) (cc (same.statement s).symbols)

  mandatory-same : (hs : List ℕ) → mandatory db' hs ≡ mandatory db hs
  unfolding mandatory
  mandatory-same [] = refl
  mandatory-same (h ∷ hs) = cc (float_same h, floated-same h, mandatory-same hs)

  pairs-same : (a : ℕ) → frame_pairs db' (statement_of db' a) ≡ frame_pairs db (statement_of db a)
  unfolding frame_pairs
  pairs-same a = cc ((same.statement a).hyps, (same.statement a).pairs, mandatory-same (statement_of db a).hyps)

  map_same : (hs : List ℕ) → map (expression_of db') hs ≡ map (expression_of db) hs
  map_same [] = refl
  map_same (h ∷ hs) = cc (expression-same h, map_same hs)

  frame_same : (a : ℕ) → frame_of db a ≡ frame_of db' a
  unfolding frame_of
  frame_same a =
      let hyps : map (expression_of db) (statement_of db a).hyps ≡ map (expression_of db') (statement_of db' a).hyps =
      cc ((same.statement a).hyps, map_same (statement_of db a).hyps) in
      cc (pairs-same a, expression-same a)

  pub first-same : first_variables db' p ≡ first_variables db p
  unfolding first_variables
  first-same = cc ((same.statement p).hyps, (same.statement p).pairs, mandatory-same (statement_of db p).hyps)

  -- the same labels
  label_same : (s : ℕ) → label_of db' s ≡ label_of db s
  unfolding label_of
  label_same s = (same.statement s).label

  following-same : (ss : List ℕ) → following db' ss ≡ following db ss
  unfolding following
  following-same [] = refl
  following-same (s ∷ ss) = cc (label_same s, following-same ss)

  joined_same : (ss : List ℕ) → joined db' ss ≡ joined db ss
  unfolding joined
  joined_same [] = refl
  joined_same (s ∷ ss) = cc (label_same s, following-same ss)

  pub text_same : (tree : Tree) → long_text db' tree ≡ long_text db tree
  unfolding long_text
  text_same tree = joined_same (post_order tree)

  pub covered_same : (vars ss : List ℕ) → Covered db vars ss → Covered db' vars ss
  covered_same vars ss c = record { each = λ s m f. rw (floated-same s) (c.each s m (sym (float_same s) ∙ f)) }

  -- the same substitutions
  substituted-same : (τ : Substitution) (ss : List ℕ) → substituted (is_variable db) τ ss ≡ substituted (is_variable db') τ ss
  unfolding substituted
  substituted-same τ [] = refl
  substituted-same τ (s ∷ ss) = cc (variable-same s, substituted-same τ ss)

  under_same : (τ : Substitution) (e : Expression) → under (is_variable db) τ e ≡ under (is_variable db') τ e
  unfolding under
  under_same τ e = same-expression refl (substituted-same τ e.symbols)

  unders-same : (τ : Substitution) (es : List Expression) → map (under (is_variable db) τ) es ≡ map (under (is_variable db') τ) es
  unders-same τ [] = refl
  unders-same τ (e ∷ es) = cc (under_same τ e, unders-same τ es)

  -- the same grounds
  active-same : (h : ℕ) → Active db p h → Active db' p h
  active-same h a =
      let k = (same.statement h).kind in
      let e = (same.statement h).end in
      record { earlier = a.earlier; kind = rw k a.kind; scope = rw e a.scope }

  suppose-same : (h : ℕ) (e : Expression) → MaySuppose db p h e → MaySuppose db' p h e
  suppose-same h e m =
      let k = (same.statement h).kind in
      let hyps = (same.statement p).hyps in
      record { active = active-same h m.active; own = rw (k, hyps) m.own; is = m.is ∙ sym (expression-same h) }

  apply-same : (a : ℕ) (frame : Frame) → MayApply db p a frame → MayApply db' p a frame
  apply-same a frame m =
      let k = (same.statement a).kind in
      record { before = m.before; kind = rw k m.kind; is = m.is ∙ frame_same a }

  keeps_same : (τ : Substitution) (q : ℕ × ℕ) → Keeps (ground db p) τ q → Keeps (ground db' p) τ q
  unfolding ground
  keeps_same τ q k u v first second =
      let pairs = (same.statement p).pairs in
      let d = k u v
      (record { variable = sym (variable-same u) ∙ first.variable; stands = first.stands })
      (record { variable = sym (variable-same v) ∙ second.variable; stands = second.stands }) in
      record { differ = d.differ; declared = rw pairs d.declared }

  as-expressions : {trees : Forest} {es es' : List Expression} → es ≡ es' → DeriveAll (ground db' p) trees es → DeriveAll (ground db' p) trees es'
  as-expressions e d = rw e at d

  as-expression : {tree : Tree} {e e' : Expression} → e' ≡ e → Derives (ground db' p) tree e → Derives (ground db' p) tree e'
  as-expression e d = rw e d

  mutual
    unfolding ground

    pub derives-same : (tree : Tree) {e : Expression} → Derives (ground db p) tree e → Derives (ground db' p) tree e
    derives-same (leaf h) (supposed _ e may) = supposed h e (suppose-same h e may)
    derives-same (node a trees) (applied _ frame τ _ may all kept) =
        as-expression (under_same τ frame.claim)
        (applied a frame τ trees (apply-same a frame may) (as-expressions (unders-same τ frame.hypotheses) (derive-all-same trees all))
        (λ q m. keeps_same τ q (kept q m)))

    derive-all-same : (trees : Forest) {es : List Expression} → DeriveAll (ground db p) trees es → DeriveAll (ground db' p) trees es
    derive-all-same empty nothing = nothing
    derive-all-same (and tree trees) (more _ _ e es d ds) = more tree trees e es (derives-same tree d) (derive-all-same trees ds)
