use Rattle.script_lines.proofs.Readings.{gives_into}
use Rattle.script_lines.proofs.names.Names.read_field.Goals as goal

pub returns-in-NewLan : goal.returns-in-NewLan
returns-in-NewLan c =
    rw (c.in-NewLan.is, ← c.lan_at.ensures.number) (gives_into _ (λ name. record c.args.parts.now { name = name }) _ _ (c.put_found.ensures _ c.new_name.ensures))

pub returns-in-NewSystem : goal.returns-in-NewSystem
returns-in-NewSystem c =
    rw (c.in-NewSystem.is, ← c.system_at.ensures.number) (gives_into _ (λ name. record c.args.parts.now { name = name }) _ _ (c.put_found-in-NewSystem.ensures _ c.new_name-in-NewSystem.ensures))

pub returns-in-NewPath : goal.returns-in-NewPath
returns-in-NewPath c =
    rw (c.in-NewPath.is, ← c.path_at.ensures.number) (gives_into _ (λ name. record c.args.parts.now { name = name }) _ _ (c.put_found-in-NewPath.ensures _ c.new_name-in-NewPath.ensures))

pub returns-in-Hops : goal.returns-in-Hops
returns-in-Hops c = rw c.in-Hops.is (gives_into _ (λ hops. record c.args.parts.now { hops = hops }) _ _ (c.put_found-in-Hops.ensures _ c.hops_of.ensures))

pub returns-in-NewSelector : goal.returns-in-NewSelector
returns-in-NewSelector c =
    rw c.in-NewSelector.is (gives_into _ (λ selector. record c.args.parts.now { selector = selector }) _ _ (c.put_found-in-NewSelector.ensures _ c.new_selector.ensures))

pub returns-in-Selector : goal.returns-in-Selector
returns-in-Selector c = rw c.in-Selector.is (gives_into _ (λ selector. record c.args.parts.now { selector = selector }) _ _ (c.put_found-in-Selector.ensures _ c.selector.ensures))

pub returns-in-Called : goal.returns-in-Called
returns-in-Called c = rw c.in-Called.is (gives_into _ (λ selector. record c.args.parts.now { called = selector }) _ _ (c.put_found-in-Called.ensures _ c.selector-in-Called.ensures))

pub returns-in-Octets : goal.returns-in-Octets
returns-in-Octets c = rw c.in-Octets.is (gives_into _ (λ octets. record c.args.parts.now { octets = octets }) _ _ (c.put_found-in-Octets.ensures _ c.octets.ensures))
