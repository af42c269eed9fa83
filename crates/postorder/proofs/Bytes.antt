-- The text of a long form is read label by label: each label is one step of a normal proof, and after the last one the run is at its end.
use Prim.Native.Nat.{ℕ, suc, ◌+◌, ◌-◌, ◌≤◌}
use mathlib.Core.Path.{◌≡◌, refl, sym, ap, ◌∙◌}
use mathlib.Core.Bool.{Bool, true, false}
use mathlib.Core.Logic.{inl, inr}
use mathlib.Core.Option.{none}
use mathlib.Core.List.{List, [], ◌∷◌, ◌++◌, append_assoc, append-nil}
use native.Mathlib.Omega.{arith}
use lib.ListN.{length}
use Rattle.frames.specs.Logic.{at_most, equal, pick, either, both, no, one_of, any}
use Rattle.frames.specs.Table.{name_byte}
use Rattle.frames.specs.Database.{Database}
use Rattle.frames.specs.Facts.{LabelByte, small, capital, digit, hyphen, underscore, dot, Facts}
use Rattle.frames.proofs.Chains.{pick_second, both-second, either_first, either_second, one_later, one_last, equal-no, at_most-yes, no-of-true, no-of-false}
use Rattle.machine.specs.declared.Refusal.{Refusal}
use Rattle.machine.specs.Chain.{Result, fine, unless}
use Rattle.machine.specs.Answer.{Answer, refused}
use Rattle.machine.specs.Reading.{divider, bad_byte, parts}
use Rattle.machine.specs.Memory.{Room, Memory, give_local}
use Rattle.machine.specs.Apply.{label_of}
use Rattle.machine.specs.Run.{Mode, beginning, normal, Standing, State, going, over, settle, go_on, after_step, on_parts, on_normal, on_token, end_token, on_plain, by_mode, on_byte, on_bytes, finish, on_end}
use Rattle.machine.proofs.Gives.{Stands, goes, ends}
use Rattle.machine.proofs.Every.{Every, none, also}
use Rattle.postorder.specs.LongForm.{following, joined}
use Rattle.postorder.proofs.Comes.{Lacks, Comes, comes, lacks, bind-parts}
use Rattle.postorder.proofs.OneText.{Numbered, label_bytes, label_some}
use Rattle.postorder.proofs.Naming.{not_byte, not-sign, split-label}
use Rattle.postorder.proofs.Steps.{step_of}
use Rattle.postorder.proofs.Trees.{run_all}

-- a label byte divides no tokens, and it is a name byte
no-divider : {b : ℕ} → LabelByte b → divider b ≡ false
unfolding divider
no-divider l =
    sym (one_later _ (equal-no (not_byte 32 l (inl (omega arith))))
    (one_later _ (equal-no (not_byte 9 l (inl (omega arith))))
    (one_later _ (equal-no (not_byte 13 l (inl (omega arith))))
    (one_later _ (equal-no (not_byte 10 l (inl (omega arith))))
    (one_later _ (equal-no (not_byte 12 l (inl (omega arith)))) (one_last refl))))))

byte-range : {b : ℕ} → LabelByte b → (33 ≤ b) × (b ≤ 126)
byte-range (small l h) = (omega arith, omega arith)
byte-range (capital l h) = (omega arith, omega arith)
byte-range (digit l h) = (omega arith, omega arith)
byte-range (hyphen q) = (omega arith, omega arith)
byte-range (underscore q) = (omega arith, omega arith)
byte-range (dot q) = (omega arith, omega arith)

good-byte : {b : ℕ} → LabelByte b → bad_byte b ≡ false
unfolding bad_byte name_byte
good-byte l =
    let r = byte-range l in
    no-of-true (sym (either_first _
    (sym (both-second (sym (both-second (at_most-yes r.0) (sym (at_most-yes r.1)))) (sym (no-of-false (equal-no (not_byte 36 l (inl (omega arith)))))))) refl))

good-space : bad_byte 32 ≡ false
unfolding bad_byte divider name_byte one_of either both no equal at_most
good-space = refl

any_append : (p : ℕ → Bool) (xs ys : List ℕ) → any p xs ≡ false → any p ys ≡ false → any p (xs ++ ys) ≡ false
unfolding any either
any_append p [] ys e f = f
any_append p (x ∷ xs) ys e f = tried (p x) e (any_append p xs ys)
  where
    tried : (t : Bool) → either t (any p xs) ≡ false → (any p xs ≡ false → any p ys ≡ false → any p (xs ++ ys) ≡ false)
        → either t (any p (xs ++ ys)) ≡ false
    tried true g rest = g
    tried false g rest = rest g f

good-label : {xs : List ℕ} → Every LabelByte xs → any bad_byte xs ≡ false
unfolding any
good-label none = refl
good-label (also l ls) = sym (either_second (good-byte l) (sym (good-label ls)))

module _ (db : Database) (facts : Facts db) where
  good-following : {ss : List ℕ} → Every (Numbered db facts) ss → any bad_byte (following db ss) ≡ false
  unfolding following any
  good-following none = refl
  good-following (also {x} {xs} n ns) =
      sym (either_second good-space (sym (any_append bad_byte (label_of db x) (following db xs) (good-label (label_bytes db facts x n)) (good-following ns))))

  -- 20 does not come
  pub good-text : {ss : List ℕ} → Every (Numbered db facts) ss → any bad_byte (joined db ss) ≡ false
  unfolding joined any
  good-text none = refl
  good-text (also {x} {xs} n ns) = any_append bad_byte (label_of db x) (following db xs) (good-label (label_bytes db facts x n)) (good-following ns)

-- before the first token, or in a normal proof
pub data Plain : Mode → Type 0 where
  first : Plain beginning
  later : Plain normal

unfoldable pub stand : Memory → Mode → List ℕ → ℕ → State
stand m mode token at = going (record { memory = m; mode = mode; token = token; at = at })

module _ (db : Database) (p : ℕ) (room : Room) where
  one_byte : (m : Memory) {mode : Mode} (token : List ℕ) (at : ℕ) {b : ℕ} → Plain mode → LabelByte b
      → on_byte db p room (stand m mode token at) b ≡ stand m mode (token ++ (b ∷ [])) (suc at)
  unfolding on_byte by_mode on_plain stand
  one_byte m token at first l = sym (pick_second _ (no-divider l) refl)
  one_byte m token at later l = sym (pick_second _ (no-divider l) refl)

  -- the bytes of a label are put to the token
  label-read : (m : Memory) {mode : Mode} (token : List ℕ) (at : ℕ) {xs : List ℕ} (rest : List ℕ) → Plain mode → Every LabelByte xs
      → on_bytes db p room (stand m mode token at) (xs ++ rest) ≡ on_bytes db p room (stand m mode (token ++ xs) (at + length xs)) rest
  unfolding on_bytes
  label-read m {mode} token at rest pl none =
      let same_at : at + 0 ≡ at = omega arith in
      let same-token : token ++ [] ≡ token = append-nil token in
      rw (same_at, same-token) refl
  label-read m {mode} token at rest pl (also {x} {xs} l ls) =
      let whole : stand m mode ((token ++ (x ∷ [])) ++ xs) (suc at + length xs) ≡ stand m mode (token ++ (x ∷ xs)) (at + suc (length xs)) =
      let next : suc at + length xs ≡ at + suc (length xs) = omega arith in
      cc (append_assoc token (x ∷ []) xs) in
      ap (λ (st : State). on_bytes db p room st (xs ++ rest)) (one_byte m token at pl l)
      ∙ (label-read m (token ++ (x ∷ [])) (suc at) rest pl ls ∙ ap (λ (st : State). on_bytes db p room st rest) whole)

  token-ends : (m : Memory) (mode : Mode) (at : ℕ) (token : List ℕ) (next : Mode → Memory → State) → 1 ≤ length token
      → end_token db p room m mode at token next ≡ on_token db p room m mode (at - length token) token next
  unfolding end_token
  token-ends m mode at [] next l = absurd (omega arith)
  token-ends m mode at (b ∷ bs) next l = refl

  -- the state after a label and a space
  space-read : (m : Memory) {mode : Mode} (at : ℕ) (token : List ℕ) → Plain mode → 1 ≤ length token
      → on_byte db p room (stand m mode token at) 32 ≡ on_token db p room m mode (at - length token) token (go_on at)
  unfolding on_byte by_mode on_plain stand divider one_of either equal pick
  space-read m at token first l = token-ends m beginning at token (go_on at) l
  space-read m at token later l = token-ends m normal at token (go_on at) l

  label-and-space : (m : Memory) {mode : Mode} (at : ℕ) {xs : List ℕ} (rest : List ℕ) → Plain mode → Every LabelByte xs → 1 ≤ length xs
      → on_bytes db p room (stand m mode [] at) (xs ++ (32 ∷ rest))
      ≡ on_bytes db p room (on_token db p room m mode (at + length xs - length xs) xs (go_on (at + length xs))) rest
  unfolding on_bytes
  label-and-space m at {xs} rest pl ls l =
      label-read m [] at (32 ∷ rest) pl ls
      ∙ ap (λ (st : State). on_bytes db p room st rest) (space-read m (at + length xs) xs pl l)

  end_read : (m : Memory) {mode : Mode} (at : ℕ) (token : List ℕ) → Plain mode → 1 ≤ length token
      → on_end db p room (stand m mode token at) ≡ on_token db p room m mode (at - length token) token (finish db p at)
  unfolding on_end stand
  end_read m {mode} at token pl l = token-ends m mode at token (finish db p at) l

  -- what is over stays so
  pub over-stays : (a : Answer) (bs : List ℕ) → on_bytes db p room (over a) bs ≡ over a
  unfolding on_bytes on_byte
  over-stays a [] = refl
  over-stays a (b ∷ bs) = over-stays a bs

  module _ {Q : Answer → Type 0} (short : (why : Refusal) (at steps : ℕ) → Lacks why → Q (refused why at steps)) where
    settled : {A : Type 0} {P : A → Type 0} {S : Standing → Type 0} {r : Result A} {next : A → State} (at steps : ℕ) → Comes P r
        → ((x : A) → P x → Stands S Q (next x)) → Stands S Q (settle r at steps next)
    unfolding settle
    settled at steps (comes q) rest = rest _ q
    settled at steps (lacks l) rest = ends (short _ at steps l)

    -- a label is one step
    label-runs : {P : Memory → Type 0} {S : Standing → Type 0} (s : ℕ) (m : Memory) (from : ℕ) (next : Memory → State) → Every LabelByte (label_of db s)
        → Comes P (step_of db p room s m) → ((m' : Memory) → P m' → Stands S Q (next m')) → Stands S Q (on_normal db p room m from (label_of db s) next)
    unfolding on_normal on_parts after_step give_local settle step_of parts unless
    label-runs s m from next ls c rest =
        rw (not-sign 63 (inr (omega arith, omega arith)) ls, split-label ls) (settled from m.steps c rest)

    token-runs : {P : Memory → Type 0} {S : Standing → Type 0} (s : ℕ) (m : Memory) {mode : Mode} (from : ℕ) (next : Mode → Memory → State) → Plain mode
        → Every LabelByte (label_of db s) → Comes P (step_of db p room s m) → ((m' : Memory) → P m' → Stands S Q (next normal m'))
        → Stands S Q (on_token db p room m mode from (label_of db s) next)
    unfolding on_token pick
    token-runs s m from next first ls c rest = rw (not-sign 40 (inl (omega arith)) ls) (label-runs s m from (next normal) ls c rest)
    token-runs s m from next later ls c rest = label-runs s m from (next normal) ls c rest

    goes_on : {S : Standing → Type 0} {s : State} (bs : List ℕ)
        → Stands (λ st. Stands S Q (on_end db p room (on_bytes db p room (going st) bs))) Q s → Stands S Q (on_end db p room (on_bytes db p room s bs))
    unfolding on_end
    goes_on bs (goes g) = g
    goes_on bs (ends {a} q) = rw (over-stays a bs) (ends q)

    pub labels-run : {P : Memory → Type 0} {S : Standing → Type 0} (facts : Facts db) (s : ℕ) (ss : List ℕ) (m : Memory) {mode : Mode} (at : ℕ)
        → Plain mode → Numbered db facts s → Every (Numbered db facts) ss → Comes P (run_all db p room (s ∷ ss) m)
        → ((end : ℕ) (m' : Memory) → P m' → Stands S Q (finish db p end normal m'))
        → Stands S Q (on_end db p room (on_bytes db p room (stand m mode [] at) (label_of db s ++ following db ss)))
    unfolding following run_all on_bytes go_on stand
    labels-run {P} {S} facts s [] m at pl n ns c rest =
        rw (label-read m [] at [] pl (label_bytes db facts s n), end_read m (at + length (label_of db s)) (label_of db s) pl (label_some db facts s n))
        (token-runs s m _ _ pl (label_bytes db facts s n) (bind-parts (step_of db p room s m) c) (λ m' d. last_one (at + length (label_of db s)) m' d))
      where
        last_one : (end : ℕ) (m' : Memory) → Comes P (fine m') → Stands S Q (finish db p end normal m')
        last_one end m' (comes q) = rest end m' q
    labels-run facts s (t ∷ ts) m at pl n (also k ks) c rest =
        rw (label-and-space m at (label_of db t ++ following db ts) pl (label_bytes db facts s n) (label_some db facts s n))
        (goes_on (label_of db t ++ following db ts)
        (token-runs s m _ _ pl (label_bytes db facts s n) (bind-parts (step_of db p room s m) c)
        (λ m' d. goes (labels-run facts t ts m' _ later k ks d rest))))
