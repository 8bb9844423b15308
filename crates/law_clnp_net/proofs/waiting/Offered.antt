-- An offer: the unit waits behind all others, since nothing that is held has its key; or it is refused, and the same units wait.
use Rattle.std.proofs.Common.{◌≡◌, ◌⊎◌, inl, inr, ℕ, true, List, [], ◌∷◌, ◌++◌, Ok, refl, sym, ◌∙◌, ap, subst, Bool}
use Rattle.std.specs.List.{AllByRecursion}
use Rattle.nsap.specs.declared.port.Port.{Port}
use Rattle.osi_base.specs.declared.unit.DropCause.{DropCause}
use Rattle.osi_base.specs.declared.unit.Offered.{Offered}
use Rattle.osi_base.specs.declared.unit.Offered.TheVariants.{Dropped}
use Rattle.osi_base.specs.declared.unit.Unit.{Unit as CarriedUnit}
use Rattle.osi_base.specs.declared.unit.Up.{Up}
use Rattle.osi_base.specs.declared.unit.Wish.{Wish}
use Rattle.lan_step.specs.Bag.{Bag, BagStep, link_of}
use Rattle.lan_step.specs.declared.row.PortRow.{PortRow}
use Rattle.esis_tables.specs.Rows.{Rows}
use Rattle.clnp_segment.specs.Store.{Holding, Partial}
use Rattle.clnp_system.specs.Node.{Frame, Node}
use Rattle.clnp_system.specs.Sending.{Sends}
use Rattle.clnp_system.specs.Setting.{Setting}
use Rattle.clnp_system.specs.Tables.{rows_tables}
use Rattle.law_clnp_step.specs.Handling.{Changes, OffersFrames}
use Rattle.law_clnp_step.specs.Sound.{IsSound}
use Rattle.law_clnp_step.specs.Step.{IsDropped, IsFull, IsNobodys, IsTaken, NetOffers, is_source}
use Rattle.net_world.specs.Fifo.{IsBetween, IsUser, NoneDropped, arrivals, queued}
use Rattle.law_clnp_net.specs.Calm.{IsCalmNet, titles_of}
use Rattle.law_clnp_net.specs.Cutting.{IsFrameTo, KeepsAll, SendsTo}
use Rattle.law_clnp_net.specs.Frames.{HasWaiting}
use Rattle.law_clnp_net.proofs.Senders.{first_sends, first_sends_not, never_to_itself, refused_keeps, second_sends, user_of}
use Rattle.law_clnp_net.proofs.Gathered.{Net}
use Rattle.law_clnp_net.proofs.Nodes.{changes_first, changes_second}
use Rattle.law_clnp_net.proofs.Offered.{AreOffered, offered_each}
use Rattle.law_clnp_net.proofs.Sent.{sends_to}
use Rattle.law_clnp_net.proofs.joining.Sent.{cut_goes, cut_keeps}
use Rattle.law_clnp_net.specs.Joining.{HasNone, unit_key}
use Rattle.law_clnp_net.specs.Reached.{Reached}
use Rattle.law_clnp_net.specs.Waiting.{AreLeft, GoesAcross, WaitsBeside}
use Rattle.law_clnp_net.proofs.Fresh.{is_new}
use Rattle.law_clnp_net.proofs.joining.Brings.{cut_brings}
use Rattle.law_clnp_net.proofs.waiting.Queues.{IsFewer, left_behind}
use Rattle.law_clnp_net.proofs.reached.Reports.{apart_back, calm_of, made_from, own_of}

pub same_two : (a b c d : Node Rows) → ◌≡◌ {A = List (Node Rows)} (a ∷ b ∷ []) (c ∷ d ∷ []) → (a ≡ c) × (b ≡ d)
same_two a b c d e = (cc, cc)

module _ (rows : List PortRow) (first second : Setting) (here there : Port) (calm : IsCalmNet rows first second here there) (reports : Bool) (older_one older_two : List Partial) where
  abbrev titles : List (List ℕ)
  titles = titles_of first second

  abbrev InNet : Net → List (CarriedUnit (List ℕ)) → Type 0
  InNet = WaitsBeside reports titles first second here there rows older_one older_two

  abbrev Left : List Partial → List Partial → List (CarriedUnit (List ℕ)) → List Frame → Type 0
  Left = AreLeft reports titles first second here there older_one older_two

  -- what a network must be for these units to wait in it
  pub waits_on : (new : Net) (queue : List (CarriedUnit (List ℕ))) (reached : Reached rows first second new) (one two : Node Rows) (frames : List Frame) → new.nodes ≡ one ∷ two ∷ []
      → HasWaiting new.link frames → Left one.store.held two.store.held queue frames → InNet new queue
  waits_on new queue reached one two frames nodes waiting left =
      let same = same_two reached.nodes.one reached.nodes.two one two (sym reached.nodes.are ∙ nodes) in
      let held_one : one.store.held ≡ reached.nodes.one.store.held = ap (λ (n : Node Rows). n.store.held) (sym same.0) in
      let held_two : two.store.held ≡ reached.nodes.two.store.held = ap (λ (n : Node Rows). n.store.held) (sym same.1) in
      record {
        reached = reached;
        frames = frames;
        waiting = waiting;
        left =
            subst (λ (held : List Partial). Left held reached.nodes.two.store.held queue frames) held_one
            (subst (λ (held : List Partial). Left one.store.held held queue frames) held_two left);
      }

  module _ (old called new : Net) (queue : List (CarriedUnit (List ℕ))) (waits : InNet old queue) (unit : CarriedUnit (List ℕ)) (wish : Wish) (answer : Offered) (ups : List (Up (List ℕ)))
      (between : IsBetween titles unit) (plain : wish.path ≡ 0) (new_is : new ≡ record called { waiting = [] }) (ups_is : ups ≡ called.waiting) (none : NoneDropped ups)
      (reached : Reached rows first second new) (sound : IsSound link_of old) where
    abbrev now : ℕ
    now = (link_of old.link).clock

    abbrev one : Node Rows
    one = waits.reached.nodes.one

    abbrev two : Node Rows
    two = waits.reached.nodes.two

    -- nothing changed but the systems' clocks
    keeps : (ones twos : Node Rows) → new.nodes ≡ ones ∷ twos ∷ [] → new.link ≡ old.link → ones.store ≡ one.store → twos.store ≡ two.store → InNet new queue
    keeps ones twos nodes link same also =
        waits_on new queue reached ones twos waits.frames nodes (subst (λ (b : Bag). HasWaiting b waits.frames) (sym link) waits.waiting)
        (subst (λ (s : Holding). Left s.held twos.store.held queue waits.frames) (sym same) (subst (λ (s : Holding). Left one.store.held s.held queue waits.frames) (sym also) waits.left))

    refused : (cause : DropCause) → answer ≡ Dropped cause → called.waiting ≡ old.waiting → InNet new queue → (arrivals ups ≡ []) × InNet new (queued queue unit answer)
    refused cause answer_is quiet there_wait = (
      ap arrivals (ups_is ∙ (quiet ∙ waits.reached.quiet)),
      subst (λ (a : Offered). InNet new (queued queue unit a)) (sym answer_is) there_wait,
    )

    as_it_was : called ≡ old → InNet new queue
    as_it_was is =
        keeps one two (ap (λ (n : Net). n.nodes) new_is ∙ (ap (λ (n : Net). n.nodes) is ∙ waits.reached.nodes.are)) (ap (λ (n : Net). n.link) new_is ∙ ap (λ (n : Net). n.link) is) refl refl

    module _ (node after : Node Rows) (nodes : List (Node Rows)) (changes : Changes (is_source unit.from) old.nodes node after nodes) where
      among : Changes (is_source unit.from) (one ∷ two ∷ []) node after nodes
      among = subst (λ (ns : List (Node Rows)). Changes (is_source unit.from) ns node after nodes) waits.reached.nodes.are changes

      -- the system that sends is the one whose user the source is
      data Sender : Type 0 where
        IsFirst : node ≡ one → nodes ≡ after ∷ two ∷ [] → Sender
        IsSecond : node ≡ two → nodes ≡ one ∷ after ∷ [] → Sender

      sender : Sender
      sender = by (user_of first.title second.title between.from.title between.sender between.from.title_is)
        where
          by : ((between.sender ≡ 0) × (between.from.title ≡ first.title)) ⊎ ((between.sender ≡ 1) × (between.from.title ≡ second.title)) → Sender
          by (inl is) =
              let from = made_from rows first second here there calm between.from.title first.title unit.from between.from.selector is.1 between.from.address_is in
              let same =
              changes_first (is_source unit.from) one two node after nodes among
              (first_sends rows first second here there calm unit one between.from.selector (calm_of rows first second here there calm first one waits.reached.nodes.one_is waits.reached.nodes.one_knows) from) in
              IsFirst same.0 same.1
          by (inr is) =
              let from = made_from rows first second here there calm between.from.title second.title unit.from between.from.selector is.1 between.from.address_is in
              let same =
              changes_second (is_source unit.from) one two node after nodes among
              (first_sends_not rows first second here there calm unit one between.from.selector (calm_of rows first second here there calm first one waits.reached.nodes.one_is waits.reached.nodes.one_knows) from)
              (second_sends rows first second here there calm unit two between.from.selector (calm_of rows first second here there calm second two waits.reached.nodes.two_is waits.reached.nodes.two_knows) from) in
              IsSecond same.0 same.1

      refused_there : called ≡ record old { nodes = nodes } → KeepsAll node now after → Sender → InNet new queue
      refused_there is kept (IsFirst same nodes_are) =
          keeps after two (ap (λ (n : Net). n.nodes) new_is ∙ (ap (λ (n : Net). n.nodes) is ∙ nodes_are)) (ap (λ (n : Net). n.link) new_is ∙ ap (λ (n : Net). n.link) is)
          (kept.store ∙ ap (λ (n : Node Rows). n.store) same) refl
      refused_there is kept (IsSecond same nodes_are) =
          keeps one after (ap (λ (n : Net). n.nodes) new_is ∙ (ap (λ (n : Net). n.nodes) is ∙ nodes_are)) (ap (λ (n : Net). n.link) new_is ∙ ap (λ (n : Net). n.link) is)
          refl (kept.store ∙ ap (λ (n : Node Rows). n.store) same)

      -- ---- taken

      module _ (frames : List Frame) (below : Bag) (told : List (Up (List ℕ))) (sends : Sends rows_tables node now unit wish (Ok frames) after)
          (offers : OffersFrames link_of BagStep old.link node.setup.system frames below told) (link_is : called.link ≡ below) (nodes_is : called.nodes ≡ nodes)
          (waiting_is : called.waiting ≡ old.waiting ++ told) where
        told_is : ups ≡ told
        told_is = ups_is ∙ (waiting_is ∙ ap (λ (us : List (Up (List ℕ))). us ++ told) waits.reached.quiet)

        offered : AreOffered old.link below told (waits.frames ++ frames)
        offered = offered_each frames old.link below node.setup.system waits.frames told waits.waiting offers (subst NoneDropped told_is none)

        there_wait : HasWaiting new.link (waits.frames ++ frames)
        there_wait = subst (λ (b : Bag). HasWaiting b (waits.frames ++ frames)) (sym (ap (λ (n : Net). n.link) new_is ∙ link_is)) offered.waits

        -- nothing that is held has the key of the unit
        fresh : wish.cut ≡ true → HasNone (unit_key unit node.next_id) one.store.held × HasNone (unit_key unit node.next_id) two.store.held
        fresh cut =
            let all = is_new old unit wish node after nodes frames sound waits.reached.honest changes sends cut in
            let both = subst (AllByRecursion (λ (n : Node Rows). HasNone (unit_key unit node.next_id) n.store.held)) waits.reached.nodes.are all in
            (both.0, both.1.0)

        behind : (ones twos : Node Rows) → nodes ≡ ones ∷ twos ∷ [] → ones.store ≡ one.store → twos.store ≡ two.store
            → (IsFewer one.store.held older_one → IsFewer two.store.held older_two → GoesAcross reports titles first second here there older_one older_two unit frames)
            → InNet new (queue ++ unit ∷ [])
        behind ones twos nodes_are same also goes =
            let left = left_behind rows first second here there calm reports older_one older_two one.store.held two.store.held queue waits.frames unit frames waits.left goes in
            waits_on new (queue ++ unit ∷ []) reached ones twos (waits.frames ++ frames) (ap (λ (n : Net). n.nodes) new_is ∙ (nodes_is ∙ nodes_are)) there_wait
            (subst (λ (s : Holding). Left s.held twos.store.held (queue ++ unit ∷ []) (waits.frames ++ frames)) (sym same)
            (subst (λ (s : Holding). Left one.store.held s.held (queue ++ unit ∷ []) (waits.frames ++ frames)) (sym also) left))

        taken_by : Sender → InNet new (queue ++ unit ∷ [])
        taken_by (IsFirst same nodes_are) = by (user_of first.title second.title between.to.title between.receiver between.to.title_is)
          where
            sends_one : Sends rows_tables one now unit wish (Ok frames) after
            sends_one = subst (λ (n : Node Rows). Sends rows_tables n now unit wish (Ok frames) after) same sends

            by : ((between.receiver ≡ 0) × (between.to.title ≡ first.title)) ⊎ ((between.receiver ≡ 1) × (between.to.title ≡ second.title)) → InNet new (queue ++ unit ∷ [])
            by (inl own) =
                absurd (never_to_itself one now unit wish frames after
                (own_of rows first second here there calm one first between.to.title unit.to between.to.selector waits.reached.nodes.one_is own.1 between.to.address_is) sends_one)
            by (inr other) =
                let to = made_from rows first second here there calm between.to.title second.title unit.to between.to.selector other.1 between.to.address_is in
                let sent = sends_to first second 0 here there calm.first_at calm.leads 1 calm.second_at (apart_back rows first second here there calm) one
                (calm_of rows first second here there calm first one waits.reached.nodes.one_is waits.reached.nodes.one_knows) now unit between.to.selector between.to.known to wish frames after plain sends_one in
                let s : SendsTo rows_tables one now second unit there frames after = record { faces = sent.faces; wish = wish; plain = plain; sends = sends_one } in
                behind after two nodes_are (cut_keeps rows_tables one now second unit there frames after s).store refl
                (λ f g.
                inl (record {
                  user = subst (IsUser titles unit.to) (other.0 ∙ sym calm.second_at.system_is) between.to;
                  frames_go = subst (λ (setting : Setting). AllByRecursion (IsFrameTo setting there unit) frames) waits.reached.nodes.one_is (cut_goes rows_tables one now second unit there frames after s);
                  fewer = λ key lacks. lacks;
                  brings = cut_brings rows_tables one now second unit there frames after older_two s
                      (λ cut. g (unit_key unit one.next_id) (subst (λ (n : Node Rows). HasNone (unit_key unit n.next_id) two.store.held) same (fresh cut).1));
                }))
        taken_by (IsSecond same nodes_are) = by (user_of first.title second.title between.to.title between.receiver between.to.title_is)
          where
            sends_two : Sends rows_tables two now unit wish (Ok frames) after
            sends_two = subst (λ (n : Node Rows). Sends rows_tables n now unit wish (Ok frames) after) same sends

            by : ((between.receiver ≡ 0) × (between.to.title ≡ first.title)) ⊎ ((between.receiver ≡ 1) × (between.to.title ≡ second.title)) → InNet new (queue ++ unit ∷ [])
            by (inl other) =
                let to = made_from rows first second here there calm between.to.title first.title unit.to between.to.selector other.1 between.to.address_is in
                let sent = sends_to second first 1 there here calm.second_at calm.back 0 calm.first_at calm.apart two
                (calm_of rows first second here there calm second two waits.reached.nodes.two_is waits.reached.nodes.two_knows) now unit between.to.selector between.to.known to wish frames after plain sends_two in
                let s : SendsTo rows_tables two now first unit here frames after = record { faces = sent.faces; wish = wish; plain = plain; sends = sends_two } in
                behind one after nodes_are refl (cut_keeps rows_tables two now first unit here frames after s).store
                (λ f g.
                inr (record {
                  user = subst (IsUser titles unit.to) (other.0 ∙ sym calm.first_at.system_is) between.to;
                  frames_go = subst (λ (setting : Setting). AllByRecursion (IsFrameTo setting here unit) frames) waits.reached.nodes.two_is (cut_goes rows_tables two now first unit here frames after s);
                  fewer = λ key lacks. lacks;
                  brings = cut_brings rows_tables two now first unit here frames after older_one s
                      (λ cut. f (unit_key unit two.next_id) (subst (λ (n : Node Rows). HasNone (unit_key unit n.next_id) one.store.held) same (fresh cut).0));
                }))
            by (inr own) =
                absurd (never_to_itself two now unit wish frames after
                (own_of rows first second here there calm two second between.to.title unit.to between.to.selector waits.reached.nodes.two_is own.1 between.to.address_is) sends_two)

    pub offered_net : NetOffers link_of BagStep rows_tables old unit wish answer called → (arrivals ups ≡ []) × InNet new (queued queue unit answer)
    offered_net (IsFull full answer_is is) = refused _ answer_is (ap (λ (n : Net). n.waiting) is) (as_it_was is)
    offered_net (IsNobodys room nobody answer_is is) = refused _ answer_is (ap (λ (n : Net). n.waiting) is) (as_it_was is)
    offered_net (IsDropped node after nodes cause room changes sends answer_is is) =
        refused cause answer_is (ap (λ (n : Net). n.waiting) is)
        (refused_there node after nodes changes is (refused_keeps rows first second here there calm node after now unit wish cause sends) (sender node after nodes changes))
    offered_net (IsTaken node after nodes frames below told room changes sends offers answer_is is) =
        let link_is = ap (λ (n : Net). n.link) is in
        let nodes_is = ap (λ (n : Net). n.nodes) is in
        let waiting_is = ap (λ (n : Net). n.waiting) is in (
          ap arrivals (told_is node after nodes changes frames below told sends offers link_is nodes_is waiting_is)
              ∙ (offered node after nodes changes frames below told sends offers link_is nodes_is waiting_is).no_units,
          subst (λ (a : Offered). InNet new (queued queue unit a)) (sym answer_is)
              (taken_by node after nodes changes frames below told sends offers link_is nodes_is waiting_is (sender node after nodes changes)),
        )
