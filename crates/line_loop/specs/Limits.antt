-- The limits of an input as octets.
pub use Rattle.octet_loop.specs.Limits.{most_octets, most_read}
