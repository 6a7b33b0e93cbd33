-- Laws of the cursor, and what its readers come to.
pub mod Cursor
pub mod Reading
pub mod Making
