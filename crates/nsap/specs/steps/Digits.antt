-- The texts that are decoded: digits alone.
use Rattle.std.specs.Prelude.{◌≡◌, ◌<◌, ◌≤◌, ℕ, ◌%◌, List, length}
use Rattle.std.specs.List.{AllPass}
use Rattle.hex.specs.Hex.{is_hex_digit}

-- a text of digits alone, two for each octet, at least and at most so many
pub record IsDigits (least most : ℕ) (text : List ℕ) : Type 0 where
  pub digits : AllPass is_hex_digit text
  pub even : length text % 2 ≡ 0
  pub some : 0 < length text
  pub enough : least ≤ length text
  pub fits : length text ≤ most
