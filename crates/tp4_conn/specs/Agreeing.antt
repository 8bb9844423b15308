-- What two ends agree on, and the TPDUs and halves that follow from it (X.224, class 4: connection establishment).
use Rattle.std.specs.Prelude.{ℕ, ◌+◌, ◌*◌, ◌-◌, ◌/◌, ◌%◌, Bool, true, false, ◌&&◌, ◌||◌, ◌==◌, not, nat_le, min, List, [], ◌∷◌, Option, Some, None, is_some, unwrap_or, if◌then◌else◌}
use Rattle.tpdu.specs.declared.tpdu.Format.{Format}
use Rattle.tpdu.specs.declared.tpdu.Format.TheVariants.{Normal, Extended}
use Rattle.tpdu.specs.declared.tpdu.Tpdu.TheVariants.{Cr, Cc}
use Rattle.tp4_flow.specs.ReceivingHalf.{empty}
use Rattle.tp4_flow.specs.declared.rules.FlowRules.{FlowRules}
use Rattle.tpdu.specs.declared.service.Options.{Options}
use Rattle.tp4_flow.specs.declared.step.Sent.{Sent}
use Rattle.tp4_sending.specs.SendingHalf.{fresh}
use Rattle.tp4_conn.specs.declared.end_record.EndRecord.{EndRecord}
use Rattle.tp4_conn.specs.declared.proposed.Proposed.{Proposed}
use Rattle.tp4_conn.specs.declared.halves.Halves.{Halves}
use Rattle.tp4_conn.specs.End.{send, in_use}

-- the additional options octet: 1 for expedited data, 2 for no checksum
abbrev pub extra_of : Options → ℕ
extra_of o = (if o.expedited then 1 else 0) + (if o.sum then 0 else 2)

-- the greatest listed size that is no greater
abbrev pub greatest : ℕ → ℕ
greatest size =
    if nat_le 8192 size then 8192
    else if nat_le 4096 size then 4096
    else if nat_le 2048 size then 2048
    else if nat_le 1024 size then 1024
    else if nat_le 512 size then 512
    else if nat_le 256 size then 256
    else 128

-- the size that counts where no preferred one is agreed on
abbrev pub listed_of : Options → ℕ
listed_of o = if o.preferred then greatest o.size else o.size

abbrev pub proposed_by : Options → Proposed
proposed_by o = record { options = o; listed = listed_of o }

-- the size that a CR or a CC names: 128 where it names none; a preferred one is in units of 128 octets, of which more than 128 count as 128
abbrev pub size_in : Option ℕ → Option ℕ → ℕ
size_in size None = unwrap_or size 128
size_in size (Some n) = 128 * min n 128

-- what a CR proposes, or a CC says
abbrev pub options_in : Format → Option ℕ → Option ℕ → ℕ → Options
options_in width size preferred extra = record {
  format = width;
  size = size_in size preferred;
  expedited = extra % 2 == 1;
  sum = extra / 2 % 2 == 0;
  preferred = is_some preferred;
}

abbrev pub proposed_in : Format → Option ℕ → Option ℕ → ℕ → Proposed
proposed_in width size preferred extra = record { options = options_in width size preferred extra; listed = unwrap_or size 128 }

-- the preferred size of a CR or a CC, and the size of a CC
abbrev pub number_of : Options → Option ℕ
number_of o = if o.preferred then Some (o.size / 128) else None

abbrev pub confirmed_size : Options → Option ℕ
confirmed_size o = if o.preferred then None else Some o.size

abbrev pub is_extended : Format → Bool
is_extended Normal = false
is_extended Extended = true

-- the sizes of a CC: a preferred one only if proposed, and no greater number; else no greater size than that of the CR
abbrev pub within_by : Proposed → Option ℕ → Option ℕ → Bool
within_by proposed size None = nat_le (unwrap_or size 128) proposed.listed
within_by proposed size (Some n) = proposed.options.preferred && nat_le (128 * n) proposed.options.size

-- a CC is within what was proposed: extended formats, expedited data and no checksum only if proposed, and its sizes
abbrev pub is_within : Proposed → Format → Option ℕ → Option ℕ → ℕ → Bool
is_within proposed width size preferred extra =
    let o = options_in width size preferred extra in
    (not (is_extended o.format) || is_extended proposed.options.format) && ((not o.expedited || proposed.options.expedited)
    && ((o.sum || not proposed.options.sum) && within_by proposed size preferred))

abbrev pub format_of_both : Format → Format → Format
format_of_both Normal other = Normal
format_of_both Extended other = other

-- what is agreed by an accept: extended formats, expedited data and no checksum only if both ask for it. Where both have a preferred size, the lesser of the
-- two; else the lesser of the listed ones
abbrev pub agreed_by : Proposed → Options → Options
agreed_by proposed asked = record {
  format = format_of_both proposed.options.format asked.format;
  size = if proposed.options.preferred && asked.preferred then min proposed.options.size asked.size else min proposed.listed (listed_of asked);
  expedited = proposed.options.expedited && asked.expedited;
  sum = proposed.options.sum || asked.sum;
  preferred = proposed.options.preferred && asked.preferred;
}

-- the CC of an end that agrees on this is within what was proposed
abbrev pub is_confirmed : Proposed → Options → Bool
is_confirmed proposed o = is_within proposed o.format (confirmed_size o) (number_of o) (extra_of o)

-- the octets of a DT before its data
abbrev pub header_of : Options → ℕ
header_of o = (if is_extended o.format then 8 else 5) + (if o.sum then 4 else 0)

-- the terms of its halves. A piece has the size without the header of a DT
abbrev pub flow_rules : EndRecord → Options → FlowRules
flow_rules b o = record {
  own = b.own;
  partner = b.partner;
  to = b.to;
  format = o.format;
  sum = o.sum;
  piece = o.size - header_of o;
  t1 = b.timers.t1;
  sendings = b.timers.sendings;
  limit = in_use b.timers;
}

-- the halves of an end that agrees
abbrev pub halves_of : EndRecord → Options → Halves
halves_of b o = record { sending = fresh (flow_rules b o) b.credit; receiving = empty (flow_rules b o) b.timers.credit }

-- the CR of a calling end
abbrev pub request : EndRecord → List ℕ → Sent
request b octets =
    send b (Cr b.timers.credit b.own b.proposed.options.format b.calling b.called (Some b.proposed.listed) (number_of b.proposed.options) (extra_of b.proposed.options) None None None octets)

-- the CC of an end that agreed on this
abbrev pub confirm : EndRecord → Options → List ℕ → Sent
confirm b o octets =
    send b (Cc b.timers.credit b.partner b.own o.format b.calling b.called (confirmed_size o) (number_of o) (extra_of o) None None None octets)

abbrev pub confirms_again : EndRecord → Option Options → List ℕ → List Sent
confirms_again b None octets = []
confirms_again b (Some o) octets = confirm b o octets ∷ []
