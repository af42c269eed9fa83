-- The definitions that the contracts of `bitset` cite: sets as lists of words, and what an iterator has still to give.
pub mod Sets
pub mod Iter
