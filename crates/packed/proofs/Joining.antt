-- Texts added one after another: after i symbols (the typecode left out) the pool has the texts of those before the i-th. The laws follow a
-- loop: none yet, one more, no room, done.
use Rattle.std.proofs.Common.{Some, None}
use Prim.Native.Nat.{ℕ, zero, suc, ◌+◌, ◌≤◌, ◌<◌}
use mathlib.Core.Path.{◌≡◌, refl, sym, ◌∙◌, ap}
use mathlib.Core.Bool.{Bool, true, false}
use mathlib.Core.List.{List, [], ◌∷◌, ◌++◌, append_assoc, append-nil}
use native.Mathlib.Omega.{arith}
use lib.ListN.{length, get_or, take, drop, length-append, length-take, take-append-drop}
use lib.Seq.{take_all, take-take}
use Rattle.frames.specs.Logic.{below, pick}
use Rattle.frames.proofs.Chains.{below-no, below_true, below_false}
use Rattle.packed.specs.Pool.{written, grown, Adds, joined}
use Rattle.packed.proofs.Written.{take-one-more, written_none, written-length, written-take, written-past, written-append}
use Rattle.packed.proofs.Adding.{grown-full, grown-to}

-- what the answer says
pub grown-of-to : (size used limit n : ℕ) → Some n ≡ grown size used limit → (n ≡ used + size) × (n ≤ limit)
unfolding grown pick
grown-of-to size used limit n e = tried (below limit (used + size)) refl e
  where
    tried : (t : Bool) → below limit (used + size) ≡ t → Some n ≡ pick t None (Some (used + size)) → (n ≡ used + size) × (n ≤ limit)
    tried true b q = let z : ◌≡◌ {A = ℕ} 0 1 = cc in absurd (omega arith)
    tried false b q = let m : n ≡ used + size = cc in (m, omega (arith, below_false limit (used + size) b))

pub grown-of-full : (size used limit : ℕ) → None ≡ grown size used limit → limit < used + size
unfolding grown pick
grown-of-full size used limit e = tried (below limit (used + size)) refl e
  where
    tried : (t : Bool) → below limit (used + size) ≡ t → None ≡ pick t None (Some (used + size)) → limit < used + size
    tried true b q = below_true _ _ b
    tried false b q = let z : ◌≡◌ {A = ℕ} 0 1 = cc in absurd (omega arith)

pub joined-append : (text : ℕ → List ℕ) (xs ys : List ℕ) → joined text (xs ++ ys) ≡ joined text xs ++ joined text ys
unfolding joined
joined-append text [] ys = refl
joined-append text (x ∷ xs) ys = ap (λ (r : List ℕ). text x ++ r) (joined-append text xs ys) ∙ sym (append_assoc (text x) (joined text xs) (joined text ys))

-- the symbols after the typecode, before the i-th
pub front : List ℕ → ℕ → List ℕ
front xs i = drop 1 (take i xs)

front-one : (xs : List ℕ) → front xs 1 ≡ []
unfolding front
front-one [] = refl
front-one (x ∷ xs) = refl

drop-front : (ys zs : List ℕ) → 1 ≤ length ys → drop 1 (ys ++ zs) ≡ drop 1 ys ++ zs
drop-front [] zs l = absurd (omega arith)
drop-front (y ∷ ys) zs l = refl

front-more : (xs : List ℕ) (i : ℕ) → 1 ≤ i → i < length xs → front xs (i + 1) ≡ front xs i ++ (get_or xs i 0 ∷ [])
unfolding front
front-more xs i low l =
    ap (λ (r : List ℕ). drop 1 r) (take-one-more xs i l)
    ∙ drop-front (take i xs) (get_or xs i 0 ∷ []) (omega (arith, length-take i xs))

front-all : (xs : List ℕ) (i : ℕ) → length xs ≤ i → front xs i ≡ drop 1 xs
unfolding front
front-all xs i l = ap (λ (r : List ℕ). drop 1 r) (take_all i xs l)

-- what is before the i-th symbol, and what is from it on
front_rest : (xs : List ℕ) (i : ℕ) → 1 ≤ i → i < length xs → drop 1 xs ≡ front xs i ++ drop i xs
unfolding front
front_rest xs i low l =
    ap (λ (r : List ℕ). drop 1 r) (sym (take-append-drop i xs))
    ∙ drop-front (take i xs) (drop i xs) (omega (arith, length-take i xs))

drop_here : (xs : List ℕ) (i : ℕ) → i < length xs → drop i xs ≡ get_or xs i 0 ∷ drop (suc i) xs
drop_here [] i l = absurd (omega arith)
drop_here (x ∷ xs) zero l = refl
drop_here (x ∷ xs) (suc i) l = drop_here xs i (omega arith)

-- what agrees up to `end` agrees up to `used`
sooner : (p q : List ℕ) (used end : ℕ) → used ≤ end → take end p ≡ take end q → take used p ≡ take used q
sooner p q used end l e =
    sym (take-take used end p l) ∙ ap (λ (r : List ℕ). take used r) e ∙ take-take used end q l

pub record Joins (text : ℕ → List ℕ) (xs : List ℕ) (used limit : ℕ) (pool : List ℕ) (i end : ℕ) (pool' : List ℕ) : Type 0 where
  pub low : 1 ≤ i
  pub fits : limit ≤ length pool
  pub ends : end ≡ used + length (joined text (front xs i))
  pub room : end ≤ limit
  pub is : pool' ≡ written (joined text (front xs i)) used pool

pub joins-none : (text : ℕ → List ℕ) (xs pool : List ℕ) {used limit : ℕ} → used ≤ limit → limit ≤ length pool → Joins text xs used limit pool 1 used pool
unfolding joined
joins-none text xs pool {used} l f =
    let nothing : joined text (front xs 1) ≡ [] = ap (joined text) (front-one xs) in
    record {
      low = omega arith;
      fits = f;
      ends = rw nothing (omega arith);
      room = l;
      is = rw nothing (sym (written_none used pool));
    }

module _ {text : ℕ → List ℕ} {xs : List ℕ} {used limit : ℕ} {pool : List ℕ} {i end : ℕ} {pool' : List ℕ} (j : Joins text xs used limit pool i end pool') where
  pub joins-length : length pool' ≡ length pool
  joins-length = ap length j.is ∙ written-length _ used pool (let e = j.ends in let r = j.room in let f = j.fits in omega arith)

  pub joins-kept : take used pool' ≡ take used pool
  joins-kept = ap (λ (p : List ℕ). take used p) j.is ∙ written-take _ used pool (let e = j.ends in let r = j.room in let f = j.fits in omega arith)

  joins-past : drop limit pool' ≡ drop limit pool
  joins-past =
      let e = j.ends in
      let r = j.room in
      let f = j.fits in
      ap (λ (p : List ℕ). drop limit p) j.is ∙ written-past _ used pool limit (omega arith) (omega arith)

  one_more : (s : ℕ) → i < length xs → s ≡ get_or xs i 0 → joined text (front xs (i + 1)) ≡ joined text (front xs i) ++ text s
  unfolding joined
  one_more s l e =
      ap (joined text) (front-more xs i j.low l ∙ ap (λ (x : ℕ). front xs i ++ (x ∷ [])) (sym e))
      ∙ joined-append text (front xs i) (s ∷ [])
      ∙ ap (λ (r : List ℕ). joined text (front xs i) ++ r) (append-nil (text s))

  pub joins-more : {bytes pool'' : List ℕ} {s n : ℕ} → i < length xs → s ≡ get_or xs i 0 → bytes ≡ text s → Adds bytes end limit pool' pool'' (Some n)
      → Joins text xs used limit pool (i + 1) n pool''
  joins-more {bytes} {pool''} {s} {n} l e b a =
      let said = grown-of-to (length bytes) end limit n a.answers in
      let longer : joined text (front xs (i + 1)) ≡ joined text (front xs i) ++ bytes =
      one_more s l e ∙ ap (λ (r : List ℕ). joined text (front xs i) ++ r) (sym b) in
      let sizes = length-append (joined text (front xs i)) bytes in
      let fits = j.fits in
      let ends = j.ends in
      let stored : pool'' ≡ written bytes end pool' = a.holds (below-no (omega arith)) in
      let once : written bytes (used + length (joined text (front xs i))) (written (joined text (front xs i)) used pool)
      ≡ written (joined text (front xs i) ++ bytes) used pool =
      written-append (joined text (front xs i)) used pool bytes (omega arith) in
      record {
        low = omega arith;
        fits = fits;
        ends = rw longer (omega arith);
        room = said.1;
        is = rw longer (stored ∙ (ap (λ (k : ℕ). written bytes k pool') ends ∙ ap (λ (p : List ℕ). written bytes (used + length (joined text (front xs i))) p) j.is ∙ once));
      }

  pub joins-done : length xs ≤ i → Adds (joined text (drop 1 xs)) used limit pool pool' (Some end)
  joins-done l =
      let whole : joined text (front xs i) ≡ joined text (drop 1 xs) = ap (joined text) (front-all xs i l) in
      record {
        answers = grown-to _ used limit end (rw whole at j.ends) j.room;
        sized = joins-length;
        kept = joins-kept;
        past = joins-past;
        holds = λ b. rw whole at j.is;
      }

  pub joins-full : {bytes pool'' : List ℕ} {s : ℕ} → i < length xs → s ≡ get_or xs i 0 → bytes ≡ text s → Adds bytes end limit pool' pool'' None
      → Adds (joined text (drop 1 xs)) used limit pool pool'' None
  unfolding joined
  joins-full {bytes} {pool''} {s} l e b a =
      let over = grown-of-full (length bytes) end limit a.answers in
      let ends = j.ends in
      let whole : joined text (drop 1 xs) ≡ joined text (front xs i) ++ (text s ++ joined text (drop (suc i) xs)) =
      ap (joined text) (front_rest xs i j.low l) ∙ joined-append text (front xs i) (drop i xs)
      ∙ ap (λ (r : List ℕ). joined text (front xs i) ++ joined text r) (drop_here xs i l ∙ ap (λ (x : ℕ). x ∷ drop (suc i) xs) (sym e)) in
      let size = ap length whole ∙ length-append (joined text (front xs i)) (text s ++ joined text (drop (suc i) xs)) in
      let size' = length-append (text s) (joined text (drop (suc i) xs)) in
      let same = ap length b in
      let long : limit < used + length (joined text (drop 1 xs)) = omega arith in
      record {
        answers = grown-full _ used limit long;
        sized = a.sized ∙ joins-length;
        kept = sooner pool'' pool' used end (omega arith) a.kept ∙ joins-kept;
        past = a.past ∙ joins-past;
        holds = λ q. absurd (omega (arith, below_false _ _ q));
      }
