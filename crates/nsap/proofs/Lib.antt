pub mod AddressLemmas
pub mod TextLemmas
