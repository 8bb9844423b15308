-- The journal of a script of `inactive` is lawful, since nothing is injected.
use Rattle.std.specs.Prelude.{List, [], ◌∷◌}
use Rattle.std.specs.List.{AllByRecursion}
use Rattle.script_lines.specs.Commands.{HasLine}
use Rattle.script_lines.specs.Injecting.{HasNoInject, IsNoInjection}
use Rattle.script_lines.specs.declared.words.Dialect.TheVariants as dialects
use Rattle.script_lines.specs.declared.line.Line.{Line}
use Rattle.script_lines.specs.declared.line.Line.TheVariants as lines
use Rattle.script_lines.proofs.CommandLines.{script_has}
use Rattle.script_bench.specs.Claims.{IsLaw}
use Rattle.law_setup.specs.ClnpNets.{MakesNet, NetDoes, link_of_net}
use Rattle.law_setup.specs.InactiveNets.{InactiveDoes, MakesInactive, link_of_inactive}
use Rattle.script_world.specs.Transports.{frozen_of, titles_of}
use Rattle.law_setup.proofs.MadeInactive.{inactive_laws, subset_law}
use Rattle.script_world.proofs.Headline.{front_lawful, script_lawful, script_unstrayed}
use Rattle.law_tp4_lawful.specs.Laws.{ReceivesWhatWasSubmitted}
use Rattle.script_datagrams.specs.Claims.{ShownWasSent, TellsDatagrams}
use Rattle.script_datagrams.specs.Laws.{RunsGiveEach}
use Rattle.script_datagrams.proofs.Ends.{net_ends}
use Rattle.script_relays.specs.Claims.{RelaysLawfully}
use Rattle.script_relays.specs.Giving.{PumpsGiveAll, TellsRelays}
use Rattle.osi_kinds.specs.Kinds.{IsLawfulRun, datagram_acts, inactive_acts, relay_acts}

no_injection : (line : Line) → HasLine dialects.Inactive line → IsNoInjection line
no_injection (lines.Inject lan system octets) has = absurd has
no_injection line has = tt

not_injected : (script : List Line) → AllByRecursion (HasLine dialects.Inactive) script → HasNoInject script
not_injected [] all = tt
not_injected (line ∷ script) all = (no_injection line all.0, not_injected script all.1)

pub inactive_law : ReceivesWhatWasSubmitted link_of_inactive InactiveDoes → IsLaw inactive_acts IsLawfulRun
inactive_law law = record {
  runs = λ texts script names journal last says run.
      script_lawful link_of_inactive InactiveDoes MakesInactive dialects.Inactive inactive_laws law texts script names journal last says run
      (script_unstrayed link_of_inactive InactiveDoes MakesInactive dialects.Inactive inactive_laws subset_law texts script names journal last says run
      (not_injected script (script_has dialects.Inactive texts script names says)));
  front = λ script before after last lawful. front_lawful (frozen_of last) (titles_of last) before after lawful;
}

-- ---- datagrams

-- each datagram that is shown was sent, and each unit that came up gave one event
pub datagram_law : IsLaw datagram_acts ShownWasSent → RunsGiveEach link_of_net NetDoes MakesNet → IsLaw datagram_acts (TellsDatagrams link_of_net NetDoes MakesNet)
datagram_law sent gives =
    let each = gives net_ends in
    record {
      runs = λ texts script names journal last says run. record { sent = sent.runs texts script names journal last says run; each = each.runs texts script names journal last says run };
      front = λ script before after last h. record { sent = sent.front script before after last h.sent; each = each.front script before after last h.each };
    }

-- ---- relays

-- the journal is lawful, and after each pump what was shown was submitted
pub relay_law : IsLaw relay_acts RelaysLawfully → IsLaw relay_acts (PumpsGiveAll link_of_net NetDoes MakesNet) → IsLaw relay_acts (TellsRelays link_of_net NetDoes MakesNet)
relay_law lawful gives = record {
  runs = λ texts script names journal last says run. record { lawful = lawful.runs texts script names journal last says run; gives = gives.runs texts script names journal last says run };
  front = λ script before after last h. record { lawful = lawful.front script before after last h.lawful; gives = gives.front script before after last h.gives };
}
