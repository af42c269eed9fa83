-- One statement of a checked file is answered as the definition answers it.
pub mod Preparing
pub mod Asking
