-- The definition of the long form.
pub mod LongForm
pub mod LongTable
pub mod SameBut
