-- What is found in fields that stand in order of their numbers, for private clauses.
pub use Rattle.message_cursor.specs.Walk.{first_field, number_in, fixed64_in, fixed32_in, bytes_in, messages, NextMessage}
