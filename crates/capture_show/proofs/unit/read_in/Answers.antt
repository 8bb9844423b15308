use Rattle.std.proofs.Common.{ℕ, Option, [], ◌∷◌, ap, refl, ◌∙◌}
use Rattle.std.specs.Prelude.{unwrap_or}
use Rattle.tpdu.specs.Values.{seen}
use Rattle.tpdu.specs.declared.tpdu.Format.TheVariants.{Normal, Extended}
use Rattle.capture_show.proofs.Tpdus.{read_ok, read_fault}
use Rattle.capture_show.proofs.unit.read_in.Goals as goal

pub returns-in-Normal-clause-ok : goal.returns-in-Normal-clause-ok
returns-in-Normal-clause-ok c = λ extended e.
    read_ok (λ x. seen x.0) (λ x. x.1.now) c.args.octets.now extended [] Normal refl (e ∙ c.in-Normal.is) c.read_first.result c.read_first.ensures.ok

pub returns-in-Normal-clause-fault : goal.returns-in-Normal-clause-fault
returns-in-Normal-clause-fault c = λ extended e.
    read_fault c.args.octets.now extended [] Normal refl (e ∙ c.in-Normal.is) c.read_first.result c.read_first.ensures.fault

pub returns-in-Extended-clause-ok : goal.returns-in-Extended-clause-ok
returns-in-Extended-clause-ok c = λ extended e.
    read_ok (λ x. seen x.0) (λ x. x.1.now) c.args.octets.now extended _ Extended
    (ap (λ (n : ℕ). n ∷ []) (c.unwrap_or.ensures ∙ ap (λ (o : Option ℕ). unwrap_or o 0) c.reference_of.ensures))
    (e ∙ c.in-Extended.is) c.read_first-in-Extended.result c.read_first-in-Extended.ensures.ok

pub returns-in-Extended-clause-fault : goal.returns-in-Extended-clause-fault
returns-in-Extended-clause-fault c = λ extended e.
    read_fault c.args.octets.now extended _ Extended
    (ap (λ (n : ℕ). n ∷ []) (c.unwrap_or.ensures ∙ ap (λ (o : Option ℕ). unwrap_or o 0) c.reference_of.ensures))
    (e ∙ c.in-Extended.is) c.read_first-in-Extended.result c.read_first-in-Extended.ensures.fault
