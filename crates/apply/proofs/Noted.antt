-- A step that was recorded: the tree entries hold the derivation of its claim.
use Prim.Native.Nat.{ℕ, ◌+◌, ◌-◌, ◌≤◌, ◌<◌, ◌%◌}
use mathlib.Core.Path.{◌≡◌, refl, sym, ◌∙◌, ap}
use mathlib.Core.List.{List, [], ◌∷◌}
use native.Mathlib.Omega.{arith}
use lib.ListN.{length, get_or}
use Rattle.book.specs.Book.{Tree, node}
use Rattle.frames.specs.Database.{database}
use Rattle.frames.specs.Facts.{statement_of}
use Rattle.machine.specs.Memory.{Proved, Prepared, Entry}
use Rattle.machine.specs.Apply.{forest}
use Rattle.packed.specs.Lists.{Located}
use Rattle.tree.specs.Recorded.{Applications, last, Denotes, application, DenotesAll, nothing, more, further}
use Rattle.tree.proofs.Recording.{within_more}
use Rattle.memory.specs.Table.{word}
use Rattle.memory.specs.Shown.{Down, Along, ends, next, NodeShown, Derivations, Records}
use Rattle.recording.specs.declared.Noted.{Noted}
use Rattle.recording.specs.Notes.{seat_node, Notes}
use Rattle.seats.specs.Seats.{Nth, first, later, SeatShown}
use Rattle.seats.proofs.Seating.{nth-shown}

-- a member's position is within the list
pub nth-few : {A : Type 0} {xs : List A} {i : ℕ} {x : A} → Nth xs i x → i < length xs
nth-few (first e) = omega arith
nth-few (later e n) = let l = nth-few n in omega arith

module _ {f : List ℕ} {kept : Applications} {stack : List ℕ} {base : ℕ} {es : List Entry} (seats entries : List ℕ) (there : Along (NodeShown f kept stack) base es) (few : length es ≤ 64)
    (start n : ℕ) (puts : (j : ℕ) → j < n → get_or entries (start + j) 0 ≡ seat_node stack base seats j) where
  -- the entry in seat j
  seat-denotes : (j : ℕ) (x : Proved) → j < n → SeatShown es seats j x → Denotes f kept (get_or entries (start + j) 0) x.tree
  seat-denotes j x l p =
      let q = nth-shown there p.nth in
      let i = nth-few p.nth in
      let small : get_or seats j 0 % 64 ≡ get_or seats j 0 = omega arith in
      let read : get_or entries (start + j) 0 ≡ word stack (base + get_or seats j 0) 5 = puts j l ∙ ap (λ (k : ℕ). word stack (base + k) 5) small in
      rw (read, ← q.at.node, p.is) q.denotes

  -- the entries in their seats, from seat j on
  seats-denote : (j from count : ℕ) {xs : List Proved} → from ≡ start + j → length xs ≡ count → j + count ≤ n → Along (SeatShown es seats) j xs
      → DenotesAll f kept entries from count (forest xs)
  unfolding forest
  seats-denote j from count e l within ends = nothing (sym l)
  seats-denote j from count e l within (next {x = x} {xs = xs} g p a) =
      more {from = from} {count = length xs} {many = count} {tree = x.tree} refl (omega arith) (rw e (seat-denotes j x (omega arith) p)) (seats-denote _ (from + 1) (length xs) (omega arith) refl (omega arith) a)

module _ {f : List ℕ} {a at : ℕ} {stack : List ℕ} {depth n : ℕ} {seats tree : List ℕ} {used : ℕ} {tree' : List ℕ} {noted : Noted} {places : List ℕ} {steps : List Prepared}
    (es : List Entry) (loc : Located f a at) (notes : Notes at stack (depth - n) seats n tree used tree' noted) (n-is : n ≡ length (statement_of (database f) a).hyps)
    (enough : n ≤ depth) (small : n ≤ 64) where
  pub records-step : (top : List Entry) → ((kept : Applications) → Down (NodeShown f kept stack) depth es → Along (NodeShown f kept stack) (depth - n) top) → {xs : List Proved}
      → length xs ≡ n → length top ≡ n → Along (SeatShown top seats) 0 xs
      → Records f tree' used stack depth places es steps noted.nodes (length (statement_of (database f) a).hyps) noted.word (node a (forest xs))
  records-step top there {xs} many as_many seated =
      record {
        few = let l = notes.few in omega arith;
        sooner = λ l. rw notes.sized (notes.sooner (rw notes.sized at l));
        holds = λ l d.
            let fits = rw notes.sized at l in
            let is = notes.nodes_is fits in
            record {
              now = (used, node a (forest xs)) ∷ d.kept;
              within = within_more;
              recorded =
                  further {next = noted.nodes} {trees = forest xs} d.recorded loc (notes.heads fits)
                  (rw (sym n-is) (seats-denote seats tree' (there d.kept d.on_stack) (omega arith) (used + 1) n (notes.puts fits) 0 (used + 1) n (omega arith) many (omega arith) seated))
                  (omega arith);
              denotes = application (last refl refl) (notes.word_is fits);
            };
      }
