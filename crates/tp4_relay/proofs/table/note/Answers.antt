use Rattle.std.proofs.Common.{◌≡◌, length, None, max, sym, ◌∙◌, ap, arith}
use Rattle.std.proofs.lemmas.List.{take_at}
use Rattle.tp4_relay.specs.Pairs.{open_places}
use Rattle.tp4_relay.specs.steps.Tables.{kept_of}
use Rattle.tp4_relay.proofs.Noted.{tidy_part}
use Rattle.tp4_relay.proofs.Tying.{noted_other, places_joined, tied_end, tied_incoming, tied_joined, tied_other}
use Rattle.tp4_relay.proofs.table.note.Goals as goal

pub returns-in_err-push-in-Joined-clause-tied : goal.returns-in_err-push-in-Joined-clause-tied
returns-in_err-push-in-Joined-clause-tied c = record {
  tidy = tidy_part (kept_of c.args.table.now) c.args.event.now c.raise.new.named c.args.table.now.claims.items c.push.new.self.items c.requires.tied.tidy
      (c.raise.ensures ∙ ap (max c.args.table.now.named) c.named_by.ensures) (None, c.in_err-push-in-Joined.ensures.items);
  places = c.requires.tied.places ∙ ap open_places (sym c.in_err-push-in-Joined.ensures.items);
}

pub returns-in-Incoming-clause-tied : goal.returns-in-Incoming-clause-tied
returns-in-Incoming-clause-tied c = record {
  tidy = tied_incoming (kept_of c.args.table.now) c.args.event.now c.raise.new.named c.requires.tied.tidy c.requires.notable
      (c.raise.ensures ∙ ap (max c.args.table.now.named) c.named_by.ensures) c.claim.result _ c.get.result.now c.claim.new.claims.items c.deref.result.now c.in-Incoming.is c.get.ensures
      c.deref.ensures.value c.claim.ensures.ok c.claim.ensures.err;
  places = c.requires.tied.places;
}

pub returns-in_ok-push-in-Joined-clause-tied : goal.returns-in_ok-push-in-Joined-clause-tied
returns-in_ok-push-in-Joined-clause-tied c = record {
  tidy = tied_joined (kept_of c.args.table.now) c.args.event.now c.raise.new.named c.requires.tied.tidy c.requires.notable
      (c.raise.ensures ∙ ap (max c.args.table.now.named) c.named_by.ensures) _ _ c.joined-pair.result c.deref-in-Joined.result.now c.push.new.self.items c.in-Joined.is
      c.deref-in-Joined.ensures.value c.joined-pair.ensures c.in_ok-push-in-Joined.ensures.items;
  places = c.requires.tied.places ∙ places_joined (kept_of c.args.table.now) c.args.event.now c.raise.new.named c.requires.tied.tidy c.requires.notable
      (c.raise.ensures ∙ ap (max c.args.table.now.named) c.named_by.ensures) _ _ c.joined-pair.result c.deref-in-Joined.result.now c.push.new.self.items c.in-Joined.is
      c.deref-in-Joined.ensures.value c.joined-pair.ensures c.in_ok-push-in-Joined.ensures.items;
}

pub returns-in-End-clause-tied : goal.returns-in-End-clause-tied
returns-in-End-clause-tied c =
    let claims_len : length c.lose_told.new.claims ≡ c.args.table.now.claims.len = omega arith in
    let pairs_len : length c.change_pairs.new.pairs ≡ c.args.table.now.pairs.len = omega arith in
    record {
      tidy = tied_end (kept_of c.args.table.now) c.args.event.now c.raise.new.named c.requires.tied.tidy c.requires.notable
          (c.raise.ensures ∙ ap (max c.args.table.now.named) c.named_by.ensures) c.change_pairs.result _ c.change_pairs.new.pairs _
          (take_at c.change_pairs.new.pairs _ c.args.table.now.pairs.len pairs_len) c.deref_mut-in-End.ensures.value c.change_pairs.ensures.pairs _ _ _ c.lose_told.new.claims _ c.in-End.is
          (take_at c.lose_told.new.claims _ c.args.table.now.claims.len claims_len) c.deref_mut.ensures.value c.lose_told.ensures c.change_pairs.ensures.part;
      places = c.change_pairs.ensures.places ∙ ap open_places (sym (take_at c.change_pairs.new.pairs _ c.args.table.now.pairs.len pairs_len));
    }

pub returns-in_default : goal.returns-in_default
returns-in_default c =
    let pairs_len : length c.change_pairs-in_default.new.pairs ≡ c.args.table.now.pairs.len = omega arith in
    record {
      noted = noted_other (kept_of c.args.table.now) c.args.event.now c.raise.new.named c.requires.tied.tidy c.requires.notable
          (c.raise.ensures ∙ ap (max c.args.table.now.named) c.named_by.ensures) c.change_pairs-in_default.result _ c.change_pairs-in_default.new.pairs _
          (take_at c.change_pairs-in_default.new.pairs _ c.args.table.now.pairs.len pairs_len) c.deref_mut-in_default.ensures.value c.change_pairs-in_default.ensures.pairs
          c.in_default.not-Incoming c.in_default.not-Joined c.in_default.not-End;
      tied = record {
        tidy = tied_other (kept_of c.args.table.now) c.args.event.now c.raise.new.named c.requires.tied.tidy c.requires.notable
            (c.raise.ensures ∙ ap (max c.args.table.now.named) c.named_by.ensures) c.change_pairs-in_default.result _ c.change_pairs-in_default.new.pairs _
            (take_at c.change_pairs-in_default.new.pairs _ c.args.table.now.pairs.len pairs_len) c.deref_mut-in_default.ensures.value c.change_pairs-in_default.ensures.pairs
            c.in_default.not-Incoming c.in_default.not-Joined c.in_default.not-End c.change_pairs-in_default.ensures.part;
        places = c.change_pairs-in_default.ensures.places ∙ ap open_places (sym (take_at c.change_pairs-in_default.new.pairs _ c.args.table.now.pairs.len pairs_len));
      };
    }
