-- What is discarded is reported in one way, and what goes onward goes in one way.
use Rattle.std.proofs.Common.{◌≡◌, ℕ, Bool, true, false, List, [], ◌∷◌, ◌++◌, Option, Some, None, sym, ◌∙◌, ap, subst}
use Rattle.nsap.specs.declared.port.Port.{Port}
use Rattle.nsap.specs.declared.port.Hop.{Hop}
use Rattle.clnp_header.specs.declared.pdu.Pdu.{Pdu}
use Rattle.clnp_system.specs.Forwarding.{Forwards, GoesOnward, Sent, TooLong}
use Rattle.clnp_system.specs.Hops.{hop_of}
use Rattle.clnp_system.specs.Node.{Frame, Node, Reaction}
use Rattle.clnp_system.specs.Reporting.{Discarded, Discards, FitsOne, GoesBy, Reports, ReportsIf, report_pdu}
use Rattle.clnp_system.specs.Setting.{Setting, bound_of, room_of}
use Rattle.clnp_system.specs.Tables.{Tables}
use Rattle.clnp_system.specs.Written.{CutFrames}
use Rattle.clnp_header.specs.Writing.{pdu_length}
use Rattle.std.specs.Prelude.{nat_lt}
use Rattle.law_clnp_net.proofs.once.Frames.{cut_or_not, one_cut, one_frames, one_redirect}
use Rattle.law_clnp_net.proofs.once.Options.{one_onward}

pub one_reaction : (reaction other : Reaction) → reaction.ups ≡ other.ups → reaction.frames ≡ other.frames → reaction ≡ other
one_reaction reaction other a b = λ i. record { ups = a i; frames = b i }

-- ---- reports

one_fit : (setting : Setting) (hop : Hop) (pdu : Pdu) (passes : Bool) (frames others : List Frame) → FitsOne setting hop pdu passes frames → FitsOne setting hop pdu passes others
    → frames ≡ others
one_fit setting hop pdu true frames others a b = a ∙ sym b
one_fit setting hop pdu false frames others a b = one_frames setting hop.port (pdu ∷ []) frames others a b

one_going : (setting : Setting) (hop : Option Hop) (pdu : Pdu) (frames others : List Frame) → GoesBy setting hop pdu frames → GoesBy setting hop pdu others → frames ≡ others
one_going setting None pdu frames others a b = a ∙ sym b
one_going setting (Some hop) pdu frames others a b = one_fit setting hop pdu (nat_lt (room_of setting hop.port.lan) (pdu_length pdu)) frames others a b

one_report_if : {N : Type 0} (wanted : Bool) (tables : Tables N) (node : Node N) (now : ℕ) (discarded : Discarded) (frames others : List Frame)
    → ReportsIf wanted tables node now discarded frames → ReportsIf wanted tables node now discarded others → frames ≡ others
one_report_if false tables node now discarded frames others a b = a ∙ sym b
one_report_if true tables node now discarded frames others a b =
    one_going node.setup (hop_of tables node now discarded.source) (report_pdu node.setup discarded) frames others a b

pub one_report : {N : Type 0} (tables : Tables N) (node : Node N) (now : ℕ) (discarded : Discarded) (frames others : List Frame)
    → Reports tables node now discarded frames → Reports tables node now discarded others → frames ≡ others
one_report tables node now discarded frames others a b = one_report_if discarded.report tables node now discarded frames others a b

pub one_discard : {N : Type 0} (tables : Tables N) (node : Node N) (now : ℕ) (discarded : Discarded) (reaction other : Reaction)
    → Discards tables node now discarded reaction → Discards tables node now discarded other → reaction ≡ other
one_discard tables node now discarded reaction other a b =
    one_reaction reaction other (a.told ∙ sym b.told) (one_report tables node now discarded reaction.frames other.frames a.reports b.reports)

-- ---- onward

one_forwarding : (setting : Setting) (from at : Port) (pdu : Pdu) (hop : Hop) (frames others : List Frame) → Forwards setting from at pdu hop (Some frames)
    → Forwards setting from at pdu hop (Some others) → frames ≡ others
one_forwarding setting from at pdu hop frames others a b =
    let same : a.0 ≡ b.0 = one_onward setting (bound_of setting at.lan) pdu a.0 b.0 a.3 b.3 in
    let sent : a.1 ≡ b.1 = one_cut setting hop.port b.0 a.1 b.1 (subst (λ (onward : Pdu). CutFrames setting hop.port onward (Some a.1)) same a.4) b.4 in
    let redirect : a.2 ≡ b.2 = one_redirect setting from at pdu.destination hop a.2 b.2 a.5 b.5 in
    let both : a.1 ++ a.2 ≡ b.1 ++ b.2 = λ i. sent i ++ redirect i in
    a.6 ∙ both ∙ sym b.6

sent_or_not : (setting : Setting) (from at : Port) (pdu : Pdu) (hop : Hop) (frames : List Frame) → Forwards setting from at pdu hop (Some frames)
    → Forwards setting from at pdu hop None → ⊥
sent_or_not setting from at pdu hop frames a b =
    let same : a.0 ≡ b.0 = one_onward setting (bound_of setting at.lan) pdu a.0 b.0 a.3 b.1 in
    cut_or_not setting hop.port b.0 a.1 (subst (λ (onward : Pdu). CutFrames setting hop.port onward (Some a.1)) same a.4) b.2

pub one_going_onward : {N : Type 0} (tables : Tables N) (node : Node N) (now : ℕ) (frame : Frame) (pdu : Pdu) (hop : Hop) (discarded : Discarded) (reaction other : Reaction)
    → GoesOnward tables node now frame pdu hop discarded reaction → GoesOnward tables node now frame pdu hop discarded other → reaction ≡ other
one_going_onward tables node now frame pdu hop discarded reaction other (Sent frames goes is) (Sent others went also) =
    let same = one_forwarding node.setup frame.from frame.to pdu hop frames others goes went in
    is ∙ ap (λ (fs : List Frame). let made : Reaction = record { ups = []; frames = fs } in made) same ∙ sym also
one_going_onward tables node now frame pdu hop discarded reaction other (Sent frames goes is) (TooLong none discards) =
    absurd (sent_or_not node.setup frame.from frame.to pdu hop frames goes none)
one_going_onward tables node now frame pdu hop discarded reaction other (TooLong none discards) (Sent frames goes is) =
    absurd (sent_or_not node.setup frame.from frame.to pdu hop frames goes none)
one_going_onward tables node now frame pdu hop discarded reaction other (TooLong none discards) (TooLong neither also) =
    one_discard tables node now discarded reaction other discards also
