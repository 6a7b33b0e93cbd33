-- The cursor.
pub mod Cursor
