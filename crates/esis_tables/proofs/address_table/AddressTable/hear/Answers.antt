use Rattle.std.proofs.Common.{◌≡◌, List, Option, ℕ, length, take, ap, ◌∙◌, sym, subst, arith}
use Rattle.esis_tables.specs.declared.holding_time.Row.{Row}
use Rattle.esis_tables.specs.Rows.{IsTable, Rows}
use Rattle.due_links.specs.Entries.{Entries}
use Rattle.esis_tables.specs.steps.Deadlines.{AreDeadlines, IsDue, IsKept, IsListed}
use Rattle.esis_tables.specs.steps.Places.{IsRenewed}
use Rattle.esis_tables.proofs.Keeping.{heard_due, made_due}
use Rattle.esis_tables.proofs.Placing.{table_all, table_heard}
use Rattle.esis_tables.proofs.address_table.AddressTable.hear.Goals as goal

pub invariant_of-self-in-Ok : goal.invariant_of-self-in-Ok
invariant_of-self-in-Ok c =
    let renewed : IsRenewed c.args.heard.now c.in-Ok.places.items c.places_of.new.rows c.renew.new.self =
    subst (λ (places : List ℕ). IsRenewed c.args.heard.now places c.places_of.new.rows c.renew.new.self) c.deref.ensures.value c.renew.ensures in
    let listed : IsListed c.renew.new.self (length c.renew.new.self) c.in_ok-due.due.ticks c.list_new.new.due.ticks =
    subst (λ (rows : List Row). IsListed rows (length rows) c.in_ok-due.due.ticks c.list_new.new.due.ticks) c.ring-in-Ok.ensures c.list_new.ensures.ticks in
    let kept : IsKept c.renew.new.self c.in-Ok.places.items c.list_new.new.due.ticks c.keep_noted.new.due.ticks =
    subst (λ (rows : List Row). IsKept rows c.in-Ok.places.items c.list_new.new.due.ticks c.keep_noted.new.due.ticks) c.ring-in-Ok-2.ensures
    (subst (λ (places : List ℕ). IsKept c.ring-in-Ok-2.result.now.items places c.list_new.new.due.ticks c.keep_noted.new.due.ticks) c.deref-in-Ok.ensures.value
    c.keep_noted.ensures.ticks) in
    let table : IsTable c.renew.new.self =
    table_all c.args.names.now c.args.heard.now c.in-Ok.places.items c.places_of.new.rows c.renew.new.self c.places_of.ensures.table
    c.in-Ok.ensures.places renewed in
    let was = made_due c.take.result c.in_ok-due.due c.self.inside.rows
    (subst (λ (due : Option Entries). IsDue due c.self.inside.rows) (sym c.take.ensures.value) c.self.invariant.1) c.in_ok-due.ensures.ok in (
      table,
      (
        c.keep_noted.ensures.most ∙ (c.list_new.ensures.most ∙ was.0),
        heard_due c.args.names.now c.args.heard.now c.in-Ok.places.items c.self.inside.rows c.places_of.new.rows c.renew.new.self
            c.in_ok-due.due.ticks c.list_new.new.due.ticks c.keep_noted.new.due.ticks c.in-Ok.ensures.ok c.in-Ok.ensures.places renewed was.1 listed kept,
      ),
    )

pub returns-in-Ok-clause-ok : goal.returns-in-Ok-clause-ok
returns-in-Ok-clause-ok c = table_heard c.args.self.now c.args.names.now c.args.heard.now c.in-Ok.places.items c.places_of.new.rows
    c.renew.new.self c.self.inside.rows (ap (λ (table : Rows). table.rows) c.self.view_is) c.in-Ok.ensures.ok c.in-Ok.ensures.places
    (subst (λ (places : List ℕ). IsRenewed c.args.heard.now places c.places_of.new.rows c.renew.new.self) c.deref.ensures.value c.renew.ensures)

pub invariant_of-self-in-Err : goal.invariant_of-self-in-Err
invariant_of-self-in-Err c =
    let count : c.len-stood.result ≡ length c.self.inside.rows = omega (arith, c.len-stood.ensures, ap length c.ring.ensures) in
    let same : c.truncate.new.self ≡ c.self.inside.rows =
    c.truncate.ensures ∙ ap (λ (n : ℕ). take n c.places_of.new.rows) count ∙ c.places_of.ensures.kept in
    let was = made_due c.take.result c.in_ok-due.due c.self.inside.rows
    (subst (λ (due : Option Entries). IsDue due c.self.inside.rows) (sym c.take.ensures.value) c.self.invariant.1) c.in_ok-due.ensures.ok in (
      subst IsTable (sym same) c.self.invariant.0,
      (was.0, subst (λ (rows : List Row). AreDeadlines rows c.in_ok-due.due.ticks) (sym same) was.1),
    )
