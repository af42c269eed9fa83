-- The walk so far: which $p are answered, and where their answers are laid.
use Prim.Native.Nat.{ℕ, zero, suc, ◌+◌, ◌≤◌, ◌<◌}
use mathlib.Core.Path.{◌≡◌, refl, sym, ◌∙◌, ap}
use mathlib.Core.Bool.{Bool, true, false}
use mathlib.Core.List.{List, [], ◌∷◌, ◌++◌, map, append-nil, append_assoc}
use native.Mathlib.Omega.{arith}
use lib.ListN.{length, take, drop, set, length-append, length-map, length-take}
use lib.Seq.{take_all, take-nil, take-append-le}
use Rattle.bitset.specs.Sets.{keep}
use Rattle.frames.specs.Logic.{equal, below, both, pick}
use Rattle.frames.specs.Verdict.{laid}
use Rattle.frames.specs.Database.{database}
use Rattle.frames.specs.Facts.{statement_of}
use Rattle.frames.proofs.Chains.{below_true, below_false}
use Rattle.frames.proofs.Tables.{laid_more, laid-length}
use Rattle.machine.specs.Memory.{Room}
use Rattle.bench.specs.Calls.{room_in}
use Rattle.proving.specs.Ours.{Ours}
use Rattle.walk.specs.Walk.{provable_from, provable, answer_word, answer_words, NextAnswered, AllAnswered}

pub record SoFar (f : List ℕ) (room : Room) (answers answers' : List ℕ) (i count : ℕ) : Type 0 where
  pub done : List ℕ
  pub left : ℕ
  pub whole : provable (database f) ≡ done ++ provable_from (database f) left i
  pub all : left + i ≡ length (database f).statements
  pub counted : count ≡ length done
  pub few : count ≤ i
  pub lays : answers' ≡ laid (take (length answers) (map (answer_word f room) done)) answers

-- as many of a list as there is room for, laid into a table, and one more
module _ (xs t : List ℕ) (o : ℕ) where
  laid-size : length (laid (take (length t) xs) t) ≡ length t
  laid-size = laid-length (take (length t) xs) t (omega (arith, length-take (length t) xs))

  fits_more : length xs < length t → set (laid (take (length t) xs) t) (length xs) o ≡ laid (take (length t) (xs ++ (o ∷ []))) t
  fits_more fits =
      let l = length-append xs (o ∷ []) in
      let all : take (length t) xs ≡ xs = take_all (length t) xs (omega arith) in
      let more : take (length t) (xs ++ (o ∷ [])) ≡ xs ++ (o ∷ []) = take_all (length t) (xs ++ (o ∷ [])) (omega arith) in
      rw (all, more) (laid_more xs t o fits)

  full-more : length t ≤ length xs → laid (take (length t) xs) t ≡ laid (take (length t) (xs ++ (o ∷ []))) t
  full-more past = ap (λ (ys : List ℕ). laid ys t) (sym (take-append-le (length t) xs (o ∷ []) past))

map_more : (g : ℕ → ℕ) (xs : List ℕ) (x : ℕ) → map g (xs ++ (x ∷ [])) ≡ map g xs ++ (g x ∷ [])
map_more g [] x = refl
map_more g (y ∷ ys) x = ap (λ (l : List ℕ). g y ∷ l) (map_more g ys x)

module _ (f : List ℕ) (room : Room) (answers : List ℕ) where
  pub so-far-none : SoFar f room answers answers 0 0
  unfolding provable laid
  so-far-none =
      record {
        done = [];
        left = length (database f).statements;
        whole = refl;
        all = omega arith;
        counted = refl;
        few = omega arith;
        lays = ap (λ (xs : List ℕ). xs ++ drop (length xs) answers) (sym (take-nil (length answers)));
      }

module _ {f : List ℕ} {room : Room} {answers answers' : List ℕ} {i count : ℕ} (s : SoFar f room answers answers' i count) where
  abbrev words : List ℕ
  words = map (answer_word f room) s.done

  words-many : count ≡ length words
  words-many = s.counted ∙ sym (length-map s.done (answer_word f room))

  same_size : length answers' ≡ length answers
  same_size = ap length s.lays ∙ laid-size words answers 0

  pub so-far-size : length answers' ≡ length answers
  so-far-size = same_size

  -- a statement that is no $p
  passes : (l : ℕ) → s.left ≡ suc l → equal (statement_of (database f) i).kind 5 ≡ false → SoFar f room answers answers' (i + 1) count
  unfolding provable_from keep
  passes l more other =
      let a = s.all in
      let b = s.few in
      record {
        done = s.done;
        left = l;
        whole = s.whole ∙ rw (more, other) refl;
        all = omega arith;
        counted = s.counted;
        few = omega arith;
        lays = s.lays;
      }

  -- a $p
  answers_one : (l : ℕ) {answers'' : List ℕ} → s.left ≡ suc l → equal (statement_of (database f) i).kind 5 ≡ true
      → answers'' ≡ laid (take (length answers) (words ++ (answer_word f room i ∷ []))) answers → SoFar f room answers answers'' (i + 1) (count + 1)
  unfolding provable_from keep
  answers_one l more five is =
      let a = s.all in
      let b = s.few in
      let n = length-append s.done (i ∷ []) in
      let c = s.counted in
      record {
        done = s.done ++ (i ∷ []);
        left = l;
        whole = s.whole ∙ rw (more, five) (sym (append_assoc s.done (i ∷ []) (provable_from (database f) l (i + 1))));
        all = omega arith;
        counted = omega arith;
        few = omega arith;
        lays = is ∙ ap (λ (xs : List ℕ). laid (take (length answers) xs) answers) (sym (map_more (answer_word f room) s.done i));
      }

  laid-here : (t : Bool) {answers'' : List ℕ} → below count (length answers') ≡ t
      → answers'' ≡ pick t (set answers' count (answer_word f room i)) answers'
      → answers'' ≡ laid (take (length answers) (words ++ (answer_word f room i ∷ []))) answers
  unfolding pick
  laid-here true fits is =
      let h = below_true _ _ fits in
      is ∙ ap (λ (xs : List ℕ). set xs count (answer_word f room i)) s.lays
      ∙ ap (λ (n : ℕ). set (laid (take (length answers) words) answers) n (answer_word f room i)) words-many
      ∙ fits_more words answers (answer_word f room i) (omega (arith, words-many, same_size))
  laid-here false fits is =
      let h = below_false _ _ fits in
      is ∙ s.lays ∙ full-more words answers (answer_word f room i) (omega (arith, words-many, same_size))

  more_by : (l : ℕ) (t : Bool) {answers'' : List ℕ} {r : ℕ} → s.left ≡ suc l → equal (statement_of (database f) i).kind 5 ≡ t
      → r ≡ pick t (count + 1) count → answers'' ≡ pick (both t (below count (length answers'))) (set answers' count (answer_word f room i)) answers'
      → SoFar f room answers answers'' (i + 1) r
  unfolding pick both
  more_by l true more five counts is = rw counts (answers_one l more five (laid-here _ refl is))
  more_by l false more other counts is = rw (counts, is) (passes l more other)

  pub so_far_more : {answers'' : List ℕ} {r : ℕ} → i < length (database f).statements → NextAnswered f room i count answers' answers'' r
      → SoFar f room answers answers'' (i + 1) r
  so_far_more {answers''} {r} inside next = by s.left refl
    where
      by : (n : ℕ) → s.left ≡ n → SoFar f room answers answers'' (i + 1) r
      by zero e = let a = s.all in absurd (omega arith)
      by (suc l) e = more_by l _ e refl next.counts next.lays

  pub so-far-done : length (database f).statements ≤ i → AllAnswered f room answers answers' count
  unfolding provable_from answer_words
  so-far-done past =
      let a = s.all in
      let none : s.left ≡ 0 = omega arith in
      let is : provable (database f) ≡ s.done = s.whole ∙ rw none (append-nil s.done) in
      record {
        counts = s.counted ∙ ap length (sym is);
        lays = s.lays ∙ ap (λ (xs : List ℕ). laid (take (length answers) (map (answer_word f room) xs)) answers) (sym is);
      }

-- the tables of a run keep their sizes
pub record SameSizes (table₀ seats₀ froms₀ tos₀ sets₀ numbers₀ pool₀ stack₀ places₀ locals₀ table seats froms tos sets numbers pool stack places locals : List ℕ)
    : Type 0 where
  pub table_same : length table ≡ length table₀
  pub seats_same : length seats ≡ length seats₀
  pub froms_same : length froms ≡ length froms₀
  pub tos_same : length tos ≡ length tos₀
  pub sets_same : length sets ≡ length sets₀
  pub numbers_same : length numbers ≡ length numbers₀
  pub pool_same : length pool ≡ length pool₀
  pub stack_same : length stack ≡ length stack₀
  pub places_same : length places ≡ length places₀
  pub locals_same : length locals ≡ length locals₀

module _ {table₀ seats₀ froms₀ tos₀ sets₀ numbers₀ pool₀ stack₀ places₀ locals₀ table seats froms tos sets numbers pool stack places locals : List ℕ}
    (z : SameSizes table₀ seats₀ froms₀ tos₀ sets₀ numbers₀ pool₀ stack₀ places₀ locals₀ table seats froms tos sets numbers pool stack places locals) where
  pub ours_kept : Ours table₀ seats₀ froms₀ tos₀ sets₀ numbers₀ locals₀ → Ours table seats froms tos sets numbers locals
  ours_kept o =
      record {
        table_size = z.table_same ∙ o.table_size;
        seats_size = omega (arith, z.seats_same, o.seats_size);
        froms_size = z.froms_same ∙ o.froms_size;
        tos_size = z.tos_same ∙ o.tos_size;
        sets_size = z.sets_same ∙ o.sets_size;
        numbers_size = z.numbers_same ∙ o.numbers_size;
        locals_size = omega (arith, z.locals_same, o.locals_size);
      }

  pub room-kept : room_in pool stack places ≡ room_in pool₀ stack₀ places₀
  room-kept = rw (z.pool_same, z.stack_same, z.places_same) refl
