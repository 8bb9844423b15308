-- An event is noted, or there is no memory for it: the parts of a table stay tied either way.
use Rattle.std.proofs.Common.{◌≡◌, ℕ, max, List, [], ◌∷◌, ◌++◌, None, Result, refl, sym, ◌∙◌, ap, subst}
use Rattle.std.specs.Result.{OnErr, OnOk}
use Rattle.script_journal.specs.declared.event.Event.{Event}
use Rattle.script_journal.specs.declared.event.Event.TheVariants as events
use Rattle.script_journal.specs.declared.event.Indication.{Indication}
use Rattle.tp4_relay.specs.declared.claim.Claim.{Claim}
use Rattle.tp4_relay.specs.declared.pair.Pair.{Pair}
use Rattle.tp4_relay.specs.declared.row.RelayRow.{RelayRow}
use Rattle.tp4_relay.specs.Kept.{Kept, all_pairs_after, claimed, claims_after, claims_told, joined, named_by, noted, row_for}
use Rattle.tp4_relay.specs.Pairs.{AtEnd, change_inbound, open_places, pairs_after}
use Rattle.tp4_relay.specs.steps.Tables.{IsNotable, IsTidy, IsTidyBy}
use Rattle.tp4_relay.proofs.Noted.{claims_stay, joined_places, kept_is, on_both, on_ok, pairs_change, tidy_is, tidy_part}
use Rattle.tp4_relay.proofs.Tidy.{tidy_told}
use Rattle.tpdu.specs.declared.service.EndTold.{EndTold}

-- pairs that were changed, in part, or not at all
abbrev pub InPart : List Pair → List Pair → Type 0
InPart pairs new = (at : AtEnd) × (new ≡ change_inbound at pairs)

module _ (kept : Kept) (event : Event) (named : ℕ) (tidy : IsTidy kept) (may : IsNotable kept event) (n : named ≡ max kept.named (named_by event)) where
  same_claims : (claims : List Claim) → claims ≡ kept.claims → IsTidyBy claims kept.pairs named
  same_claims claims same = tidy_part kept event named claims kept.pairs (subst (λ (cs : List Claim). IsTidyBy cs kept.pairs kept.named) (sym same) tidy) n (None, refl)

  module _ {A E : Type 0} (r : Result A E) where
    pub tied_incoming : (heard told : Indication) (claims : List Claim) (rows : List RelayRow) → event ≡ events.Incoming heard → told ≡ heard → rows ≡ kept.rows
        → OnOk r (claims ≡ kept.claims ++ claimed told.end (row_for rows told)) → OnErr r (claims ≡ kept.claims) → IsTidyBy claims kept.pairs named
    tied_incoming heard told claims rows is heard_is rows_are ok err =
        let told_is : claimed told.end (row_for rows told) ≡ claimed heard.end (row_for kept.rows heard) =
        ap (λ (rs : List RelayRow). claimed told.end (row_for rs told)) rows_are ∙ ap (λ (h : Indication). claimed h.end (row_for kept.rows h)) heard_is in
        on_both r (claims ≡ kept.claims ++ claimed told.end (row_for rows told)) (claims ≡ kept.claims) (IsTidyBy claims kept.pairs named)
        (λ more.
        tidy_is kept event named claims kept.pairs tidy may n (more ∙ ap (λ (cs : List Claim). kept.claims ++ cs) told_is ∙ sym (ap (claims_after kept.rows kept.claims) is))
        (sym (ap (all_pairs_after kept.claims kept.pairs) is)))
        (same_claims claims) ok err

    -- the parts of the table before the call, and after it, are those of the lists that the call was given
    module _ (pairs after given : List Pair) (pairs_are : pairs ≡ after) (given_are : given ≡ kept.pairs) (ok : OnOk r (after ≡ pairs_after given event)) where
      changed_all : OnOk r (pairs ≡ pairs_after kept.pairs event)
      changed_all =
          on_ok r (after ≡ pairs_after given event) (pairs ≡ pairs_after kept.pairs event)
          (λ all. pairs_are ∙ all ∙ ap (λ (ps : List Pair). pairs_after ps event) given_are) ok

      in_part : InPart given after → InPart kept.pairs pairs
      in_part part = (part.0, pairs_are ∙ part.1 ∙ ap (change_inbound part.0) given_are)

      pub tied_end : (end : ℕ) (what : EndTold) (claims told before : List Claim) → event ≡ events.End end what → claims ≡ told → before ≡ kept.claims → told ≡ claims_told end what before
          → OnErr r (InPart given after) → IsTidyBy claims pairs named
      tied_end end what claims told before is claims_are before_are told_is err =
          let all_told : claims ≡ claims_told end what kept.claims = claims_are ∙ told_is ∙ ap (claims_told end what) before_are in
          on_both r (pairs ≡ pairs_after kept.pairs event) (InPart given after) (IsTidyBy claims pairs named)
          (λ all.
          tidy_is kept event named claims pairs tidy may n (all_told ∙ sym (ap (claims_after kept.rows kept.claims) is))
          (all ∙ ap (pairs_after kept.pairs) is ∙ sym (ap (all_pairs_after kept.claims kept.pairs) is)))
          (λ part.
          tidy_part kept event named claims pairs (subst (λ (cs : List Claim). IsTidyBy cs kept.pairs kept.named) (sym all_told) (tidy_told end what kept.claims kept.pairs kept.named tidy)) n (in_part part))
          changed_all err

      module _ (not_incoming : (heard : Indication) → event ≡ events.Incoming heard → ⊥) (not_joined : (inbound outbound : ℕ) → event ≡ events.Joined inbound outbound → ⊥)
          (not_end : (end : ℕ) (what : EndTold) → event ≡ events.End end what → ⊥) where
        pub tied_other : OnErr r (InPart given after) → IsTidyBy kept.claims pairs named
        tied_other err =
            on_both r (pairs ≡ pairs_after kept.pairs event) (InPart given after) (IsTidyBy kept.claims pairs named)
            (λ all.
            tidy_is kept event named kept.claims pairs tidy may n (claims_stay kept.rows kept.claims event not_incoming not_end)
            (all ∙ pairs_change kept.claims kept.pairs event not_joined))
            (λ part. tidy_part kept event named kept.claims pairs tidy n (in_part part)) changed_all err

        pub noted_other : OnOk r (record kept { named = named; pairs = pairs } ≡ noted kept event)
        noted_other =
            on_ok r (pairs ≡ pairs_after kept.pairs event) (record kept { named = named; pairs = pairs } ≡ noted kept event)
            (λ all. kept_is kept event named kept.claims pairs n (claims_stay kept.rows kept.claims event not_incoming not_end) (all ∙ pairs_change kept.claims kept.pairs event not_joined)) changed_all

  module _ (inbound outbound : ℕ) (pair : Pair) (claims : List Claim) (pairs : List Pair) (is : event ≡ events.Joined inbound outbound) (claims_are : claims ≡ kept.claims) (pair_is : pair ≡ joined claims inbound outbound)
      (pushed : pairs ≡ kept.pairs ++ pair ∷ []) where
    all_pairs : pairs ≡ kept.pairs ++ joined kept.claims inbound outbound ∷ []
    all_pairs = pushed ∙ ap (λ (p : Pair). kept.pairs ++ p ∷ []) (pair_is ∙ ap (λ (cs : List Claim). joined cs inbound outbound) claims_are)

    pub tied_joined : IsTidyBy kept.claims pairs named
    tied_joined =
        tidy_is kept event named kept.claims pairs tidy may n (sym (ap (claims_after kept.rows kept.claims) is)) (all_pairs ∙ sym (ap (all_pairs_after kept.claims kept.pairs) is))

    pub places_joined : open_places kept.pairs ≡ open_places pairs
    places_joined = joined_places kept.claims kept.pairs inbound outbound ∙ sym (ap open_places all_pairs)
