-- Which TPDUs match an end, and which have to have a checksum (X.224, class 4: association of TPDUs; checksum).
use Rattle.std.specs.Prelude.{ℕ, ◌/◌, ◌%◌, Bool, true, false, ◌&&◌, ◌||◌, ◌==◌, nat_eq, List, Option, Some, None}
use Rattle.std.specs.Cmp.Lexicographic.{pointwise}
use Rattle.tpdu.specs.declared.tpdu.Tpdu.{Tpdu}
use Rattle.tpdu.specs.declared.tpdu.Tpdu.TheVariants.{Cc, Dr, Dc}
use Rattle.tpdu.specs.declared.service.Options.{Options}
use Rattle.tp4_conn.specs.declared.end_record.EndRecord.{EndRecord}
use Rattle.tp4_conn.specs.declared.states.StateData.{StateData}
use Rattle.tp4_conn.specs.declared.states.StateData.TheVariants.{CrWait, WaitBeforeClose, UserWait, AkWait, Opened, Closing, Frozen}

-- the source of a CC, DR or DC is the partner's reference
abbrev pub is_source : EndRecord → Tpdu → Bool
is_source b (Cc credit destination source width calling called size preferred extra version classes ack_time text) = source == b.partner
is_source b (Dc destination source) = source == b.partner
is_source b (Dr destination source reason info text) = source == b.partner
is_source b other = true

-- a DR with source 0
abbrev pub is_refusal : Tpdu → Bool
is_refusal (Dr destination source reason info text) = source == 0
is_refusal other = false

-- a CC or a DR
abbrev pub is_answer : Tpdu → Bool
is_answer (Cc credit destination source width calling called size preferred extra version classes ack_time text) = true
is_answer (Dr destination source reason info text) = true
is_answer other = false

-- the state takes the TPDU
abbrev pub fits : EndRecord → StateData → Tpdu → Bool
fits b (CrWait w) tpdu = is_answer tpdu
fits b (WaitBeforeClose w) tpdu = is_answer tpdu
fits b (UserWait since) tpdu = false
fits b (AkWait w) tpdu = is_source b tpdu || is_refusal tpdu
fits b (Opened o) tpdu = is_source b tpdu
fits b (Closing c) tpdu = is_source b tpdu
fits b (Frozen when) tpdu = false

-- a TPDU that is no CR, with the end's reference as destination, matches it from this address
abbrev pub is_match : EndRecord → StateData → List ℕ → Tpdu → Bool
is_match b stage from tpdu = pointwise nat_eq b.to from && fits b stage tpdu

-- a called end of this calling address and reference
abbrev pub is_called_by : EndRecord → List ℕ → ℕ → Bool
is_called_by b from reference = b.is_called && (pointwise nat_eq b.to from && b.partner == reference)

-- a checksum is agreed
abbrev pub sum_agreed : Option Options → Bool
sum_agreed None = false
sum_agreed (Some o) = o.sum

-- a CC whose additional options do not say no checksum
abbrev pub is_summed_confirm : Tpdu → Bool
is_summed_confirm (Cc credit destination source width calling called size preferred extra version classes ack_time text) = extra / 2 % 2 == 0
is_summed_confirm other = false

-- the TPDU has to have a checksum
abbrev pub wants_sum : EndRecord → StateData → Tpdu → Bool
wants_sum b (CrWait w) tpdu = is_summed_confirm tpdu
wants_sum b (WaitBeforeClose w) tpdu = is_summed_confirm tpdu
wants_sum b stage tpdu = sum_agreed b.agreed
