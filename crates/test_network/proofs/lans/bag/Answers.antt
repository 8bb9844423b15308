use Rattle.std.proofs.Common.{ℕ, ◌<◌, Bool, true, false, [], ◌∷◌, refl, arith}
use Rattle.std.proofs.lemmas.List.Elements.{All-from_recursion}
use Rattle.lan_step.specs.declared.row.PortRow.{PortRow}
use Rattle.lan_step.specs.Rows.{IsLan, AreApart, IsSetUp}
use Rattle.test_network.proofs.lans.bag.Goals as goal

abbrev at : ℕ → Bool → ℕ → ℕ → PortRow
at system end lan last = record { system = system; end = end; port = record { lan = lan; snpa = 2 ∷ 0 ∷ 0 ∷ 0 ∷ 0 ∷ last ∷ [] } }

set_up : IsSetUp (record { bound = 1; room = 1497 } ∷ record { bound = 2; room = 264 } ∷ []) (at 1 true 0 11 ∷ at 2 true 0 12 ∷ at 3 false 0 13 ∷ at 3 false 1 33 ∷ at 4 true 1 14 ∷ [])
set_up = record {
  lans_fit = All-from_recursion IsLan (record { bound = 1; room = 1497 } ∷ record { bound = 2; room = 264 } ∷ [])
      ((omega arith, omega arith, omega arith, omega arith), ((omega arith, omega arith, omega arith, omega arith), tt));
  listed = All-from_recursion (λ (row : PortRow). row.port.lan < 2) (at 1 true 0 11 ∷ at 2 true 0 12 ∷ at 3 false 0 13 ∷ at 3 false 1 33 ∷ at 4 true 1 14 ∷ [])
      (omega arith, (omega arith, (omega arith, (omega arith, (omega arith, tt)))));
  apart = (
    All-from_recursion (AreApart (at 1 true 0 11)) (at 2 true 0 12 ∷ at 3 false 0 13 ∷ at 3 false 1 33 ∷ at 4 true 1 14 ∷ [])
        ((refl, λ e. absurd (omega arith)), ((refl, λ e. absurd (omega arith)), ((refl, λ e. absurd (omega arith)), ((refl, λ e. absurd (omega arith)), tt)))),
    (
      All-from_recursion (AreApart (at 2 true 0 12)) (at 3 false 0 13 ∷ at 3 false 1 33 ∷ at 4 true 1 14 ∷ [])
          ((refl, λ e. absurd (omega arith)), ((refl, λ e. absurd (omega arith)), ((refl, λ e. absurd (omega arith)), tt))),
      (
        All-from_recursion (AreApart (at 3 false 0 13)) (at 3 false 1 33 ∷ at 4 true 1 14 ∷ [])
            ((refl, λ e. ((λ l. absurd (omega arith)), refl)), ((refl, λ e. absurd (omega arith)), tt)),
        (
          All-from_recursion (AreApart (at 3 false 1 33)) (at 4 true 1 14 ∷ [])
              ((refl, λ e. absurd (omega arith)), tt),
          (All-from_recursion (AreApart (at 4 true 1 14)) [] tt, tt),
        ),
      ),
    ),
  );
}

pub new-requires : goal.new-requires
new-requires c = rw (c.row.ensures, c.row-2.ensures, c.row-3.ensures, c.row-4.ensures, c.row-5.ensures) set_up
