-- The sizes of our own tables.
use Rattle.std.specs.Prelude.{ℕ, ◌*◌, ◌≤◌, ◌≡◌, List, length}

-- our tables have the sizes that a run asks for
pub record Ours (table seats froms tos sets numbers locals : List ℕ) : Type 0 where
  pub table_size : length table ≡ 1024
  pub seats_size : 64 ≤ length seats
  pub froms_size : length froms ≡ 4096
  pub tos_size : length tos ≡ 4096
  pub sets_size : length sets ≡ 16384
  pub numbers_size : length numbers ≡ 4096
  pub locals_size : 12288 ≤ length locals

-- as much of them as a file with n symbols asks for
pub record Cut (n : ℕ) (table seats froms tos sets numbers locals : List ℕ) : Type 0 where
  pub table_size : length table ≡ 1024
  pub seats_size : 64 ≤ length seats
  pub froms_size : length froms ≡ n
  pub tos_size : length tos ≡ n
  pub sets_size : length sets ≡ 4 * n
  pub numbers_size : length numbers ≡ n
  pub locals_size : 12288 ≤ length locals
