-- The laws that letters, tokens and bytes have in common.
pub mod Running
pub mod Parts
pub mod Settling
pub mod Lettering
