-- Each call of the network keeps the link contract, and leaves it sound.
use Rattle.std.proofs.Common.{◌≡◌, ℕ, List, [], refl, sym, ◌∙◌, subst, inl, arith, Option}
use Rattle.std.specs.List.{AllByRecursion, Contains}
use Rattle.nsap.specs.declared.port.Port.{Port}
use Rattle.osi_base.specs.declared.unit.Up.{Up}
use Rattle.osi_base.specs.Link.{Link, IsGiven}
use Rattle.osi_base.specs.Calls.{Call, Offer, Choose, Inject, NextUp, Tick, Keeps, TakesUp}
use Rattle.osi_base.proofs.Raisings.{raised_choice, raised_injection, takes_up}
use Rattle.clnp_system.specs.Node.{Node, Frame}
use Rattle.clnp_system.specs.Tables.{Tables}
use Rattle.law_clnp_step.specs.Network.{Network, net_link}
use Rattle.law_clnp_step.specs.Sound.{IsCarried, IsHeldFor, IsNew, IsPeopled, IsSound, IsTimely, Knows, settings_of}
use Rattle.law_clnp_step.specs.Step.{Begins, NetStep, NetTakesUp}
use Rattle.law_clnp_step.proofs.Arrived.{arrives_soundly, choice_keeps, injection_keeps, peopled_same}
use Rattle.law_clnp_step.proofs.Lists.{all_weaker}
use Rattle.law_clnp_step.proofs.Offered.{offer_keeps}
use Rattle.law_clnp_step.proofs.Passed.{all_ticked, all_ticked_honestly, tick_keeps, tick_soundly}

module _ {C N : Type 0} (link : C → Link Port) (steps : C → Call Port → C → Type 0)
    (law : (old : C) (call : Call Port) (new : C) → steps old call new → Keeps (link old) call (link new)) (given : (carrier : C) → IsGiven (link carrier)) (tables : Tables N)
  where
    takes_keeps : (old : Network C N) (answer : Option (Up (List ℕ))) (new : Network C N) → NetTakesUp link steps tables old answer new → TakesUp (net_link link old) answer (net_link link new)
    takes_keeps old answer new t =
        subst (λ (n : Network C N). TakesUp (net_link link old) answer (net_link link n)) (sym t.becomes) (takes_up (net_link link old) new.waiting answer t.waiting t.none)

    pub net_keeps : (old : Network C N) (call : Call (List ℕ)) (new : Network C N) → NetStep link steps tables old call new → Keeps (net_link link old) call (net_link link new)
    net_keeps old (Offer unit wish answer) new s = (offer_keeps link steps law tables old unit wish answer new s.0 s.1).0
    net_keeps old (Choose pick system answer) new s = choice_keeps link steps law tables old pick system answer new s.0 s.1
    net_keeps old (Inject lan system octets answer) new s = injection_keeps link steps law tables old lan system octets answer new s.0 s.1
    net_keeps old (NextUp answer) new s = takes_keeps old answer new s.1
    net_keeps old Tick new s = tick_keeps link steps law tables old new s.0.0 s.0.1 s.1 (given old.link)

    pub stays_sound : (old : Network C N) (call : Call (List ℕ)) (new : Network C N) → IsSound link old → NetStep link steps tables old call new → IsSound link new
    stays_sound old (Offer unit wish answer) new sound s = (offer_keeps link steps law tables old unit wish answer new sound s.1).1
    stays_sound old (Choose pick system answer) new sound s =
        arrives_soundly link steps law tables old (Choose pick system answer) new sound s.1
        (raised_choice (link old.link) pick system answer (link s.1.called) (law old.link (Choose pick system answer) s.1.called s.1.calls))
    stays_sound old (Inject lan system octets answer) new sound s =
        arrives_soundly link steps law tables old (Inject lan system octets answer) new sound s.1
        (raised_injection (link old.link) answer (link s.1.called) (law old.link (Inject lan system octets answer) s.1.called s.1.calls))
    stays_sound old (NextUp answer) new sound s = subst (IsSound link) (sym s.1.becomes) (record {
      steady = record {
        quiet = sound.steady.quiet;
        low = sound.steady.low;
        limit = sound.steady.limit;
        peopled = sound.steady.peopled;
        timely = sound.steady.timely;
        past = sound.steady.past;
        young = sound.steady.young;
        none = sound.steady.none;
      };
      traced = λ h. let t = sound.traced h in (t.0, record { entries = t.1.entries; carried = t.1.carried; tellable = t.1.tellable; known = t.1.known });
    })
    stays_sound old Tick new sound s = tick_soundly link steps law tables old new sound s.0.1 s.1

    -- at tick 0 nothing floats, so there is nothing to carry
    pub begins_soundly : (first : C) (nodes : List (Node N)) (life : ℕ) (new : Network C N) → (link first).clock ≡ 0 → (link first).floating ≡ [] → (link first).waiting ≡ []
        → IsPeopled (link first).bound life (settings_of nodes) → AllByRecursion IsNew nodes → Begins link steps tables first nodes life new → IsSound link new
    begins_soundly first nodes life new clock empty quiet peopled made b =
        let t = all_ticked link steps law tables 0 first nodes b.below b.after b.told clock b.all in
        let at : (link b.below).clock ≡ 0 = t.below.stands.clock ∙ clock in
        let none : (entry : ℕ × Frame) → Contains (link first).floating entry → ⊥ = λ entry h. no_entry entry (subst (λ (l : List (ℕ × Frame)). Contains l entry) empty h) in
        let k = all_ticked_honestly link steps law tables 0 life [] first nodes b.below b.after b.told clock (λ entry h. absurd (none entry h))
        (all_weaker IsNew (Knows [] life) nodes (λ node h. new_knows node h) made) b.all in
        subst (IsSound link) (sym b.becomes) (record {
          steady = record {
            quiet = t.below.quiet quiet;
            low = omega (arith, at);
            limit = refl;
            peopled = peopled_same (link first).bound (link b.below).bound life (settings_of b.after) t.below.stands.same.bound (subst (IsPeopled (link first).bound life) (sym t.setups) peopled);
            timely = subst (λ (n : ℕ). AllByRecursion (IsTimely n) b.after) (sym at) t.known;
            past = tt;
            young = tt;
            none = λ h. refl;
          };
          traced = λ h. (
            [],
            record {
              entries = refl;
              carried = λ entry h. subst (λ (n : ℕ). IsCarried [] life n entry) (sym at) (k.below.good entry h);
              tellable = tt;
              known = k.known;
            },
          );
        })
      where
        no_entry : (entry : ℕ × Frame) → Contains {X = ℕ × Frame} [] entry → ⊥
        no_entry entry h = absurd (omega (arith, h.1))

        new_knows : (node : Node N) → IsNew node → Knows [] life node
        new_knows node h = record {
          next_fits = omega (arith, h.next_id);
          numbered = tt;
          held = subst (AllByRecursion (IsHeldFor [] life)) (sym h.held) tt;
        }

-- what can be taken has a pick that was given below
pub net_given : {C N : Type 0} (link : C → Link Port) (given : (carrier : C) → IsGiven (link carrier)) (net : Network C N) → IsGiven (net_link link net)
net_given link given net = given net.link
