-- Recording an application.
pub mod Notes
