-- The line of every word is read after the set-up: of each kind, by its row.
use Rattle.std.proofs.Common.{◌≡◌, ℕ, suc, ◌+◌, ◌/◌, ◌%◌, ◌<◌, Bool, true, false, if◌then◌else◌, List, ◌∷◌, ◌++◌, replicate, ap, arith, codes, subst, sym}
use Rattle.std.specs.Prelude.{◌==◌, nat_le}
use Rattle.std.specs.Fmt.{decimal}
use Rattle.hex.specs.Hex.{encode_lower}
use Rattle.script_lines.specs.declared.words.Dialect.{Dialect}
use Rattle.script_storm.specs.Line.{data_line, deliver_line, closing_line, line_of, number_back}
use Rattle.script_storm.specs.Read.{RunsStorms, AreRead}
use Rattle.script_storm.proofs.Rows.{IsRead, a_is, b_is, r_is, back_small, tick_read, connect_by, accept_read, units_read, expedite_read, deliver_read, disconnect_read, refuse_read, window_read}
use Rattle.script_storm.proofs.SetUp.{said, set_up_names, set_up_read}

either : (P : List ℕ → Type 0) (test : Bool) (text other : List ℕ) → P text → P other → P (if test then text else other)
either P true text other first second = first
either P false text other first second = second

once_first : (count octet : ℕ) → replicate (1 + count) octet ≡ octet ∷ replicate count octet
once_first count octet = let next : 1 + count ≡ suc count = omega arith in ap (λ times. replicate times octet) next

module _ (dialect : Dialect) (runs : RunsStorms dialect) where
  data_read : (value end : ℕ) → end < 1000000000 → IsRead dialect (data_line value end)
  data_read value end small =
      let whole : List ℕ → List ℕ = λ octets. codes "data " ++ decimal end ++ codes " " ++ encode_lower octets in
      subst (λ octets. IsRead dialect (whole octets)) (sym (once_first (value / 256 % 300) (value % 256)))
      (units_read dialect runs (value % 256) (value / 256 % 300) end (omega arith) (omega arith) small)

  to_read : (value frames : ℕ) → frames < 1000000000 → IsRead dialect (deliver_line value frames)
  to_read value frames small =
      let frame = number_back frames (value % 8) in
      let below = back_small frames (value % 8) small in
      let to : List ℕ → Type 0 = λ system. IsRead dialect (codes "deliver " ++ decimal frame ++ codes " " ++ system) in
      either to (value / 8 % 3 == 0) _ _ (deliver_read dialect runs (codes "a") 0 frame (a_is dialect) below)
      (either to (value / 8 % 3 == 1) _ _ (deliver_read dialect runs (codes "b") 1 frame (b_is dialect) below) (deliver_read dialect runs (codes "r") 2 frame (r_is dialect) below))

  closing_read : (value end : ℕ) → end < 1000000000 → IsRead dialect (closing_line value end)
  closing_read value end small =
      either (IsRead dialect) (value % 16 == 0) _ _ (disconnect_read dialect runs end small)
      (either (IsRead dialect) (value % 16 == 1) _ _ (refuse_read dialect runs end small) (window_read dialect runs (value % 256) end (omega arith) small))

  kind_read : (kind value frames end : ℕ) → frames < 1000000000 → end < 1000000000 → IsRead dialect (line_of kind value frames end)
  kind_read kind value frames end numbered made =
      either (IsRead dialect) (kind == 0) _ _ (connect_by dialect runs (value % 2 == 0))
      (either (IsRead dialect) (kind == 1) _ _ (accept_read dialect runs end made)
      (either (IsRead dialect) (nat_le kind 4) _ _ (data_read value end made)
      (either (IsRead dialect) (kind == 5) _ _ (expedite_read dialect runs (value % 256) end (omega arith) made)
      (either (IsRead dialect) (nat_le kind 12) _ _ (to_read value frames numbered)
      (either (IsRead dialect) (nat_le kind 14) _ _ (tick_read dialect runs) (closing_read value end made))))))

  pub are_read : AreRead dialect
  are_read = record {
    said = said;
    names = set_up_names dialect;
    set_up = set_up_read dialect runs;
    none_injects = (tt, (tt, (tt, (tt, (tt, (tt, (tt, (tt, (tt, (tt, (tt, (tt, (tt, (tt, (tt, tt)))))))))))))));
    each = λ word frames ends numbered made.
        kind_read (word % 16) (word / 16) frames (number_back ends (word / 16 % 4)) numbered (back_small ends (word / 16 % 4) made);
  }
