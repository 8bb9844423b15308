-- What comes of writing a text.
pub use Rattle.octet_loop.specs.Writing.{IsPrefix, IsBroken, IsWritten}
