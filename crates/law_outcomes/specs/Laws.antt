-- What octets ask the commands for that read a script beside `run`: a status and a transcript, and not two.
use Rattle.std.specs.Prelude.{ℕ, List}
use Rattle.line_loop.specs.Laws.{AsksOne, AsksSomething}
use Rattle.script_bench.specs.Bench.{bench_meaning, first_bench}
use Rattle.osi_kinds.specs.Kinds.{datagram_acts, inactive_acts, relay_acts}
use Rattle.osi_kinds.specs.declared.kinds.Kind.{Kind}
use Rattle.osi_kinds.specs.declared.kinds.Kind.TheVariants as kinds

abbrev pub AsksSomethingOf : Kind → List ℕ → Type 0
AsksSomethingOf kinds.Datagrams all = AsksSomething (bench_meaning datagram_acts) (first_bench datagram_acts) all
AsksSomethingOf kinds.Inactive all = AsksSomething (bench_meaning inactive_acts) (first_bench inactive_acts) all
AsksSomethingOf kinds.Relay all = AsksSomething (bench_meaning relay_acts) (first_bench relay_acts) all

abbrev pub AsksOneOf : Kind → Type 0
AsksOneOf kinds.Datagrams = AsksOne (bench_meaning datagram_acts)
AsksOneOf kinds.Inactive = AsksOne (bench_meaning inactive_acts)
AsksOneOf kinds.Relay = AsksOne (bench_meaning relay_acts)
