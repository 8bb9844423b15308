-- Numbers of several octets, the highest first (X.233, structure of PDUs).
pub use Rattle.byteorder.specs.Endian.{big_number}
