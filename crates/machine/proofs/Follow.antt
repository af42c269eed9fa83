-- How a fact is followed through a whole run: if it holds at the start, and preparing, running, saving and labelling keep it, then the
-- answer has what the fact gives it. `I n m` says the fact of a memory after n bytes; `Q` is said of answers; `L` is the length of the text.
use Prim.Native.Nat.{ℕ, suc, ◌+◌, ◌-◌, ◌*◌, ◌≤◌, ◌<◌}
use mathlib.Core.Path.{◌≡◌, refl}
use mathlib.Core.Bool.{Bool, false}
use mathlib.Core.Option.{Option}
use mathlib.Core.List.{List, [], ◌∷◌, ◌++◌}
use native.Mathlib.Omega.{arith}
use lib.ListN.{length, length-append}
use Rattle.frames.specs.Database.{Database}
use Rattle.frames.specs.Facts.{statement_of}
use Rattle.machine.specs.declared.Refusal.{Refusal}
use Rattle.machine.specs.Chain.{bind}
use Rattle.machine.specs.Answer.{Answer, accepted, refused}
use Rattle.machine.specs.Ground.{expression_of}
use Rattle.machine.specs.Reading.{letter, Parts, split}
use Rattle.machine.specs.declared.Letter.{Letter}
use Rattle.machine.specs.declared.Letter.TheVariants.{Last, Higher, Save, Incomplete, Ignored}
use Rattle.machine.specs.Memory.{Room, Memory, save_top, give_local}
use Rattle.machine.specs.Prepare.{prepare_roster, preload, prepare_normal}
use Rattle.machine.specs.Apply.{run_ready}
use Rattle.machine.specs.Run.{Mode, beginning, normal, in_roster, in_letters, Standing, State, going, over, go_on, step_at, on_letter, after_step, on_parts, on_normal, on_token, end_token, on_plain, by_mode, on_byte, on_bytes, only_entry, accept, unfinished, finish, on_end, first_variables, fresh, begin, admitted, start, run}
use Rattle.machine.specs.Bench.{ended}
use Rattle.machine.proofs.Gives.{Gives, gives, unless-gives, Stands, goes, ends, settle-stands, pick-stands}

-- what a fact must have to be followed
pub record Followed (db : Database) (p : ℕ) (room : Room) (L : ℕ) (I : ℕ → Memory → Type 0) (Q : Answer → Type 0) : Type 0 where
  pub begins : I 0 (fresh (first_variables db p))
  pub stays : {n k : ℕ} {m : Memory} → n ≤ k → I n m → I k m
  pub preloads : {n : ℕ} {m : Memory} → I n m → Gives (I n) (preload db room (statement_of db p).hyps m)
  pub rosters : {n : ℕ} {m : Memory} (label : List ℕ) → I n m → Gives (I n) (prepare_roster db p room m label)
  pub letters : {n : ℕ} {m : Memory} (k : ℕ) → I n m → Gives (I (suc n)) (step_at db p room m k)
  pub saves : {n : ℕ} {m : Memory} → I n m → Gives (I n) (save_top room m m.stack)
  pub tokens : {n : ℕ} {m : Memory} (token : Parts) → I n m
      → Gives (I (suc n)) (bind (prepare_normal db p room m token) (run_ready db p room token.mark))
  pub locals : {n : ℕ} {m : Memory} (label : Option (List ℕ)) → I n m → Gives (I n) (give_local room m label)
  pub refuses : {n k : ℕ} {m : Memory} (why : Refusal) → n ≤ L → k ≤ L → I k m → Q (refused why n m.steps)
  pub refuses_first : (why : Refusal) → Q (refused why 0 0)
  pub accepts : {m : Memory} (mode : Mode) → I L m
      → Gives (λ x. Q (accepted L m.steps m.consumed x.tree)) (unfinished mode (only_entry (expression_of db p) m.stack))

-- where a run stands before `rest` bytes: the token begins at `from`
pub record Reads (I : ℕ → Memory → Type 0) (L rest : ℕ) (s : Standing) : Type 0 where
  pub from : ℕ
  pub token : from + length s.token ≡ s.at
  pub left : s.at + rest ≡ L
  pub holds : I from s.memory

module _ {db : Database} {p : ℕ} {room : Room} {L : ℕ} {I : ℕ → Memory → Type 0} {Q : Answer → Type 0} (F : Followed db p room L I Q) where
  stands_at : (m : Memory) (mode : Mode) (token : List ℕ) (at rest from : ℕ) → from + length token ≡ at → at + rest ≡ L → I from m
      → Stands (Reads I L rest) Q (going (record { memory = m; mode = mode; token = token; at = at }))
  stands_at m mode token at rest from e l i = goes (record { from = from; token = e; left = l; holds = i })

  went_on : (mode : Mode) (at rest : ℕ) (m : Memory) → at + suc rest ≡ L → I (suc at) m → Stands (Reads I L rest) Q (go_on at mode m)
  unfolding go_on
  went_on mode at rest m e i = stands_at m mode [] (suc at) rest (suc at) (omega arith) (omega arith) i

  on-letter : (k : ℕ) (can : Bool) (at rest : ℕ) (m : Memory) (l : Letter) → at + suc rest ≡ L → I at m
      → Stands (Reads I L rest) Q (on_letter db p room m k can at l)
  unfolding on_letter
  on-letter k can at rest m (Last d) e i =
      settle-stands at m.steps (F.letters (20 * k + d) i) (λ why. F.refuses why (omega arith) (omega arith) i)
      (λ m' i'. went_on _ at rest m' e i')
  on-letter k can at rest m (Higher d) e i =
      settle-stands at m.steps (unless-gives {P = I at} _ _ (λ t. gives i)) (λ why. F.refuses why (omega arith) (omega arith) i)
      (λ m' i'. went_on _ at rest m' e (F.stays (omega arith) i'))
  on-letter k can at rest m Save e i =
      settle-stands at m.steps (unless-gives _ _ (λ t. F.saves i)) (λ why. F.refuses why (omega arith) (omega arith) i)
      (λ m' i'. went_on _ at rest m' e (F.stays (omega arith) i'))
  on-letter k can at rest m Incomplete e i =
      ends (F.refuses {n = at} {k = at} _ (omega arith) (omega arith) i)
  on-letter k can at rest m Ignored e i = went_on _ at rest m e (F.stays (omega arith) i)

  -- a whole token of at least one byte, from `from` to `at`; what comes next is followed from `at` on
  module _ {S : Standing → Type 0} (from at : ℕ) (long : from < at) (within : at ≤ L) where
    on-normal : (m : Memory) (token : List ℕ) (next : Memory → State) → I from m → ((m' : Memory) → I at m' → Stands S Q (next m'))
        → Stands S Q (on_normal db p room m from token next)
    unfolding on_normal on_parts after_step
    on-normal m token next i rest =
        settle-stands from m.steps (unless-gives _ _ (λ t. F.tokens (split token) i)) (λ why. F.refuses why (omega arith) (omega arith) i)
        (λ m' i'. settle-stands from m'.steps (F.locals (split token).local i') (λ why. F.refuses why (omega arith) (omega arith) i')
        (λ m'' i''. rest m'' (F.stays (omega arith) i'')))

    on-token : (m : Memory) (mode : Mode) (token : List ℕ) (next : Mode → Memory → State) → I from m
        → ((mode' : Mode) (m' : Memory) → I at m' → Stands S Q (next mode' m')) → Stands S Q (on_token db p room m mode from token next)
    unfolding on_token
    on-token m beginning token next i rest =
        pick-stands _
        (λ t. settle-stands from m.steps (F.preloads i) (λ why. F.refuses why (omega arith) (omega arith) i)
        (λ m' i'. rest in_roster m' (F.stays (omega arith) i')))
        (λ t. on-normal m token (next normal) i (rest normal))
    on-token m normal token next i rest = on-normal m token (next normal) i (rest normal)
    on-token m in_roster token next i rest =
        pick-stands _
        (λ t. rest (in_letters 0 false) m (F.stays (omega arith) i))
        (λ t. settle-stands from m.steps (F.rosters token i) (λ why. F.refuses why (omega arith) (omega arith) i)
        (λ m' i'. rest in_roster m' (F.stays (omega arith) i')))
    on-token m (in_letters k can) token next i rest = rest (in_letters k can) m (F.stays (omega arith) i)

  -- the token so far, if there is one
  end-token : {S : Standing → Type 0} (from at : ℕ) → at ≤ L → (m : Memory) (mode : Mode) (token : List ℕ) (next : Mode → Memory → State)
      → from + length token ≡ at → I from m
      → ((mode' : Mode) (m' : Memory) → I at m' → Stands S Q (next mode' m')) → Stands S Q (end_token db p room m mode at token next)
  unfolding end_token
  end-token from at within m mode [] next e i rest = rest mode m (F.stays (omega arith) i)
  end-token from at within m mode (b ∷ bs) next e i rest =
      let starts : at - length (b ∷ bs) ≡ from = omega arith in
      rw starts (on-token from at (omega arith) within m mode (b ∷ bs) next i rest)

  on-plain : (m : Memory) (mode : Mode) (token : List ℕ) (at b rest from : ℕ) → from + length token ≡ at → at + suc rest ≡ L → I from m
      → Stands (Reads I L rest) Q (on_plain db p room m mode token at b)
  unfolding on_plain
  on-plain m mode token at b rest from e l i =
      pick-stands _
      (λ t. end-token from at (omega arith) m mode token _ e i (λ mode' m' i'. went_on mode' at rest m' l (F.stays (omega arith) i')))
      (λ t. stands_at m mode (token ++ (b ∷ [])) (suc at) rest from (omega (arith, length-append token (b ∷ []))) (omega arith) i)

  by-mode : (m : Memory) (mode : Mode) (token : List ℕ) (at b rest from : ℕ) → from + length token ≡ at → at + suc rest ≡ L → I from m
      → Stands (Reads I L rest) Q (by_mode db p room m mode token at b)
  unfolding by_mode
  by-mode m (in_letters k can) token at b rest from e l i = on-letter k can at rest m (letter b) l (F.stays (omega arith) i)
  by-mode m beginning token at b rest from e l i = on-plain m beginning token at b rest from e l i
  by-mode m normal token at b rest from e l i = on-plain m normal token at b rest from e l i
  by-mode m in_roster token at b rest from e l i = on-plain m in_roster token at b rest from e l i

  on-byte : (s : State) (b rest : ℕ) → Stands (Reads I L (suc rest)) Q s → Stands (Reads I L rest) Q (on_byte db p room s b)
  unfolding on_byte
  on-byte (going s) b rest (goes r) = by-mode s.memory s.mode s.token s.at b rest r.from r.token r.left r.holds
  on-byte (over a) b rest (ends q) = ends q

  on-bytes : (s : State) (bs : List ℕ) → Stands (Reads I L (length bs)) Q s → Stands (Reads I L 0) Q (on_bytes db p room s bs)
  unfolding on_bytes
  on-bytes s [] i = i
  on-bytes s (b ∷ bs) i = on-bytes (on_byte db p room s b) bs (on-byte s b (length bs) i)

  finishes : {S : Standing → Type 0} (m : Memory) (mode : Mode) → I L m → Stands S Q (finish db p L mode m)
  unfolding finish accept
  finishes m mode i =
      settle-stands L m.steps (F.accepts mode i) (λ why. F.refuses why (omega arith) (omega arith) i) (λ x q. ends q)

  on-end : (s : State) → Stands (Reads I L 0) Q s → Stands (λ s'. ⊥) Q (on_end db p room s)
  unfolding on_end
  on-end (over a) (ends q) = ends q
  on-end (going s) (goes r) =
      let whole : s.at ≡ L = omega arith in
      end-token r.from s.at (omega arith) s.memory s.mode s.token _ r.token r.holds
      (λ mode m i. rw whole (finishes m mode (rw whole at i)))

  starts : (text : List ℕ) → length text ≡ L → Stands (Reads I L (length text)) Q (start db p text)
  unfolding start admitted begin
  starts text e =
      settle-stands 0 0
      (unless-gives {P = I 0} _ _ (λ t. unless-gives _ _ (λ t'. gives F.begins)))
      (λ why. F.refuses_first why)
      (λ m i. stands_at m beginning [] 0 (length text) 0 refl (omega arith) i)

  over-answers : (s : State) → Stands (λ s'. ⊥) Q s → Q (ended s)
  unfolding ended
  over-answers (over a) (ends q) = q
  over-answers (going s) (goes none') = absurd none'

  -- the answer of the whole run
  pub followed : (text : List ℕ) → length text ≡ L → Q (ended (run db p room text))
  unfolding run
  followed text e = over-answers _ (on-end _ (on-bytes _ text (starts text e)))
