-- Where a drain and its Take lead.
use Rattle.std.proofs.Common.{◌≡◌, ◌∙◌, ◌∷◌, ◌++◌, [], ℕ, List, Bool, true, false, Option, Some, None, Result, Ok, Err, map, ap, refl, sym, subst, true≢false, inl, inr}
use Rattle.std.specs.List.{AllByRecursion}
use Rattle.std.proofs.lemmas.List.{append_assoc, append-nil}
use Rattle.wire_write.specs.Errors.{err_line}
use Rattle.wire_write.specs.declared.error.ServerError.TheVariants as error
use Rattle.hub.specs.History.{State, IsStep}
use Rattle.events.specs.declared.event.Command.TheVariants as command
use Rattle.events.specs.declared.answer.Delivery.{Delivery}
use Rattle.events.specs.declared.answer.Outcome.{Outcome}
use Rattle.events.specs.declared.answer.Outcome.TheVariants as outcome
use Rattle.events.specs.declared.refusal.HubRefusal.{HubRefusal}
use Rattle.events.specs.declared.refusal.HubRefusal.TheVariants as refusal
use Rattle.session_plan.specs.declared.stage.Stage.{Stage}
use Rattle.session_plan.specs.declared.stage.Stage.TheVariants as stage
use Rattle.session_conn.specs.declared.output.Stall.{Stall}
use Rattle.session_conn.specs.declared.output.Stall.TheVariants as stall
use Rattle.session_conn.specs.declared.drain.Written.{Written}
use Rattle.session_conn.specs.declared.drain.Written.TheVariants.{All, Closes, Short}
use Rattle.session_plan.specs.Replies.{Told, told_text, is_closed, closed_from, takes_headers}
use Rattle.session_conn.specs.Turns.{Steps, event, IsAnswered}
use Rattle.session_conn.specs.Drains.{Drain, delivery_text, texts, IsTold, stage_after, IsDrainEnd, drain_owing_nothing, IsTakeTold, Drains}
use Rattle.script.specs.sessions.Happenings.{Happening, Took, Sent, Slow, take_told, took, has_missed, is_final}
use Rattle.script.specs.sessions.Accounts.{IsPortTo, IsOfDrain}
use Rattle.script.proofs.sessions.Leading.{Place, Leads, leads_on, leads_as, stepped-nil, or_false, idles, one_happening}
use Rattle.script.proofs.sessions.Concluding.{of_hub, stepped-one, refused, may_write, may_go}

-- ---- what is written

one_sent : (conn : ℕ) (a : Place) (d : Delivery) → is_closed a.stage ≡ false →
    Leads conn (record a { owed = d ∷ a.owed }) (Sent d ∷ []) (delivery_text (takes_headers a.stage) d) [] [] a
one_sent conn a d still =
    one_happening (record a { owed = d ∷ a.owed }) (Sent d) refl (may_write (is_closed a.stage) still) refl (stepped-nil a.hub a.hub refl) (append-nil (d ∷ a.owed)) (or_false a.missed)

all_sent : (conn : ℕ) (a : Place) (ds : List Delivery) → is_closed a.stage ≡ false →
    Leads conn (record a { owed = ds ++ a.owed }) (map Sent ds) (texts (takes_headers a.stage) ds) [] [] a
all_sent conn a [] still = idles a
all_sent conn a (d ∷ ds) still = leads_on (one_sent conn (record a { owed = ds ++ a.owed }) d still) (all_sent conn a ds still)

-- a front of what is owed is written, and the rest is left
front_sent : (conn : ℕ) (a : Place) (ds owed : List Delivery) → is_closed a.stage ≡ false → a.owed ≡ ds ++ owed →
    Leads conn a (map Sent ds) (texts (takes_headers a.stage) ds) [] [] (record a { owed = owed })
front_sent conn a ds owed still is = leads_as (λ i. record a { owed = is i }) refl refl (all_sent conn (record a { owed = owed }) ds still)

slow : (conn : ℕ) (a : Place) → is_closed a.stage ≡ false →
    Leads conn (record a { owed = []; missed = true }) (Slow ∷ []) (err_line error.SlowConsumer) [] [] (record a { stage = closed_from a.stage; owed = []; missed = false })
slow conn a still = one_happening (record a { owed = []; missed = true }) Slow refl (may_write (is_closed a.stage) still) refl (stepped-nil a.hub a.hub refl) refl refl

-- ---- parts of a drain

-- a part of a drain, from place to place, that writes behind this text
record IsPartTo (conn now most : ℕ) (a : Place) (before after : List ℕ) (b : Place) : Type 0 where
  happened : List Happening
  text : List ℕ
  leads : Leads conn a happened text [] [] b
  after_so : after ≡ before ++ text
  of_drain : AllByRecursion (IsOfDrain now most) happened

sent_of_drain : (now most : ℕ) (ds : List Delivery) → AllByRecursion (IsOfDrain now most) (map Sent ds)
sent_of_drain now most [] = tt
sent_of_drain now most (d ∷ ds) = (tt, sent_of_drain now most ds)

both_of_drain : (now most : ℕ) (hs more : List Happening) → AllByRecursion (IsOfDrain now most) hs → AllByRecursion (IsOfDrain now most) more → AllByRecursion (IsOfDrain now most) (hs ++ more)
both_of_drain now most [] more h k = k
both_of_drain now most (x ∷ hs) more h k = (h.0, both_of_drain now most hs more h.1 k)

-- what is owed is written as far as it goes
told_to : (conn now most : ℕ) (a : Place) (before after : List ℕ) (owed : List Delivery) (missed : Bool) (written : Written) →
    is_closed a.stage ≡ false → IsTold (takes_headers a.stage) before a.owed a.missed written after owed missed →
    IsPartTo conn now most a before after (record a { stage = stage_after a.stage written; owed = owed; missed = missed })
told_to conn now most a before after owed missed All still h = record {
  happened = map Sent a.owed;
  text = texts (takes_headers a.stage) a.owed;
  leads = leads_as refl refl (λ i. record a { owed = h.1 i; missed = (h.3 ∙ sym h.2) i }) (front_sent conn a a.owed [] still (sym (append-nil a.owed)));
  after_so = h.0;
  of_drain = sent_of_drain now most a.owed;
}
told_to conn now most a before after owed missed Closes still h = record {
  happened = map Sent a.owed ++ Slow ∷ [];
  text = texts (takes_headers a.stage) a.owed ++ err_line error.SlowConsumer;
  leads = leads_on (front_sent conn a a.owed [] still (sym (append-nil a.owed)))
      (leads_as (λ i. record a { owed = []; missed = h.2 i }) refl (λ i. record a { stage = closed_from a.stage; owed = h.1 i; missed = h.3 i }) (slow conn a still));
  after_so = h.0 ∙ append_assoc before (texts (takes_headers a.stage) a.owed) (err_line error.SlowConsumer);
  of_drain = both_of_drain now most (map Sent a.owed) (Slow ∷ []) (sent_of_drain now most a.owed) (tt, tt);
}
told_to conn now most a before after owed missed Short still h = record {
  happened = map Sent h.0.written;
  text = texts (takes_headers a.stage) h.0.written;
  leads = leads_as refl refl (λ i. record a { owed = owed; missed = h.1 i }) (front_sent conn a h.0.written owed still h.0.is_front);
  after_so = h.0.text;
  of_drain = sent_of_drain now most h.0.written;
}

-- ---- a Take

-- nothing is owed
abbrev settled : Place → Place
settled a = record a { owed = []; missed = false }

one_taken : (conn now most : ℕ) (a : Place) (hub : State) (r : Result Outcome HubRefusal) →
    is_closed a.stage ≡ false → is_final r ≡ true → IsAnswered IsStep a.hub (event now (command.Take conn most)) r hub →
    Leads conn (settled a) (Took now most r ∷ []) (take_told a.stage r).text [] []
    (record a { stage = (take_told a.stage r).stage; owed = took (Took now most r); missed = has_missed (Took now most r); hub = hub })
one_taken conn now most a hub r still done step =
    one_happening (settled a) (Took now most r) refl (may_go (is_closed a.stage) (is_final r) still done) refl (stepped-one a.hub hub (event now (command.Take conn most)) r step) refl refl

-- where a drain is, once it left that
abbrev place_after : Place → Drain → State → Place
place_after a d hub = record a { stage = d.stage; owed = d.owed; missed = d.missed; hub = hub }

-- an answer without deliveries
answered : (conn now most : ℕ) (a : Place) (before text : List ℕ) (s : Stage) (st : Option Stall) (d : Drain) (hub : State) (r : Result Outcome HubRefusal) →
    is_closed a.stage ≡ false → is_final r ≡ true → IsAnswered IsStep a.hub (event now (command.Take conn most)) r hub →
    take_told a.stage r ≡ told_text text s → took (Took now most r) ≡ [] → has_missed (Took now most r) ≡ false → d ≡ drain_owing_nothing (before ++ text) s st false →
    IsPartTo conn now most (settled a) before d.text (place_after a d hub)
answered conn now most a before text s st d hub r still done step told none kept is = record {
  happened = Took now most r ∷ [];
  text = text;
  leads = leads_as refl (sym (ap (λ (t : Told). t.text) told))
      (λ i. record a { stage = (ap (λ (x : Drain). x.stage) is ∙ sym (ap (λ (t : Told). t.stage) told)) i; owed = (ap (λ (x : Drain). x.owed) is ∙ sym none) i; missed = (ap (λ (x : Drain). x.missed) is ∙ sym kept) i; hub = hub })
      (one_taken conn now most a hub r still done step);
  after_so = ap (λ (x : Drain). x.text) is;
  of_drain = ((refl, refl), tt);
}

-- a refusal that leaves the Take to be tried again
not_taken : (conn now most : ℕ) (a : Place) (before : List ℕ) (st : Option Stall) (d : Drain) (hub : State) →
    hub ≡ a.hub → d ≡ drain_owing_nothing before a.stage st false → IsPartTo conn now most (settled a) before d.text (place_after a d hub)
not_taken conn now most a before st d hub same is = record {
  happened = [];
  text = [];
  leads = leads_as refl refl (λ i. record a { stage = (is i).stage; owed = (is i).owed; missed = (is i).missed; hub = same i }) (idles (settled a));
  after_so = ap (λ (x : Drain). x.text) is ∙ sym (append-nil before);
  of_drain = tt;
}

-- deliveries are written as far as it goes
delivered : (conn now most : ℕ) (a : Place) (before : List ℕ) (d : Drain) (hub : State) (ds : List Delivery) (was_missed : Bool) →
    is_closed a.stage ≡ false → IsAnswered IsStep a.hub (event now (command.Take conn most)) (Ok (outcome.Taken ds was_missed)) hub → IsDrainEnd a.stage before ds was_missed d →
    IsPartTo conn now most (settled a) before d.text (place_after a d hub)
delivered conn now most a before d hub ds was_missed still step h =
    let with : Place = record a { owed = ds; missed = was_missed; hub = hub } in
    let t : IsPartTo conn now most with before d.text (record with { stage = stage_after a.stage h.0; owed = d.owed; missed = d.missed }) =
    told_to conn now most with before d.text d.owed d.missed h.0 still h.1 in
    record {
      happened = Took now most (Ok (outcome.Taken ds was_missed)) ∷ t.happened;
      text = t.text;
      leads = leads_on (one_taken conn now most a hub (Ok (outcome.Taken ds was_missed)) still refl step)
          (leads_as refl refl (λ i. record with { stage = h.2 i; owed = d.owed; missed = d.missed }) t.leads);
      after_so = t.after_so;
      of_drain = ((refl, refl), t.of_drain);
    }

take_to : (conn now most : ℕ) (a : Place) (before : List ℕ) (d : Drain) (hub : State) (r : Result Outcome HubRefusal) →
    is_closed a.stage ≡ false → IsAnswered IsStep a.hub (event now (command.Take conn most)) r hub → IsTakeTold a.stage before false r d →
    IsPartTo conn now most (settled a) before d.text (place_after a d hub)
take_to conn now most a before d hub (Ok (outcome.Taken ds was_missed)) still step h = delivered conn now most a before d hub ds was_missed still step h
take_to conn now most a before d hub (Err refusal.NoSession) still step h =
    answered conn now most a before (err_line error.Authorization) (stage.Closed false) None d hub (Err refusal.NoSession) still refl step refl refl refl h
take_to conn now most a before d hub (Err refusal.HistoryFull) still step h =
    not_taken conn now most a before (Some stall.HistoryFull) d hub (refused (event now (command.Take conn most)) refusal.HistoryFull refl step) h
take_to conn now most a before d hub (Err refusal.NoMemory) still step h =
    not_taken conn now most a before (Some stall.Memory) d hub (refused (event now (command.Take conn most)) refusal.NoMemory refl step) h
take_to conn now most a before d hub (Err x) still step h =
    answered conn now most a before [] a.stage None d hub (Err x) still refl step refl refl refl (h ∙ ap (λ (t : List ℕ). drain_owing_nothing t a.stage None false) (sym (append-nil before)))
take_to conn now most a before d hub (Ok o) still step h =
    answered conn now most a before [] a.stage None d hub (Ok o) still refl step refl refl refl (h ∙ ap (λ (t : List ℕ). drain_owing_nothing t a.stage None false) (sym (append-nil before)))

-- ---- a drain

-- where a drain leads
pub record IsDrainedTo (conn now most : ℕ) (a : Place) (d : Drain) (hub : State) : Type 0 where
  pub happened : List Happening
  pub leads : Leads conn a happened d.text [] [] (place_after a d hub)
  pub of_drain : AllByRecursion (IsOfDrain now most) happened

-- it closes the connection, or leaves it at its stage
shut_from : (s : Stage) → is_closed (closed_from s) ≡ true
shut_from stage.Fresh = refl
shut_from (stage.Connected verbose headers) = refl
shut_from (stage.Closed session) = refl

open_after : (s s' : Stage) (written : Written) → s' ≡ stage_after s written → is_closed s' ≡ false → s' ≡ s
open_after s s' All is going = is
open_after s s' Short is going = is
open_after s s' Closes is going = absurd (true≢false (sym (ap is_closed is ∙ shut_from s) ∙ going))

open_take : (s : Stage) (before : List ℕ) (missed : Bool) (r : Result Outcome HubRefusal) (d : Drain) → IsTakeTold s before missed r d → is_closed d.stage ≡ false → d.stage ≡ s
open_take s before missed (Ok (outcome.Taken ds was_missed)) d h going = open_after s d.stage h.0 h.2 going
open_take s before missed (Ok o) d h going = ap (λ (y : Drain). y.stage) h
open_take s before missed (Err refusal.NoSession) d h going = absurd (true≢false (sym (ap (λ (x : Drain). is_closed x.stage) h) ∙ going))
open_take s before missed (Err x) d h going = ap (λ (y : Drain). y.stage) h

pub drained_open : {P : Type 0} (steps : Steps P) (now conn most : ℕ) (s : Stage) (owed : List Delivery) (missed : Bool) (p : P) (d : Drain) (p' : P) →
    Drains steps now conn most s owed missed p d p' → is_closed d.stage ≡ false → d.stage ≡ s
drained_open steps now conn most s owed missed p d p' (inl h) going = open_after s d.stage Short h.stage going
drained_open steps now conn most s owed missed p d p' (inr (inl h)) going = open_after s d.stage Closes h.stage going
drained_open steps now conn most s owed missed p d p' (inr (inr (none, inl h))) going = ap (λ (x : Drain). x.stage) h.drain
drained_open steps now conn most s owed missed p d p' (inr (inr (none, inr h))) going = open_take s (texts (takes_headers s) owed) false h.0 d h.2 going

-- no Take is made
owed_still : (conn now most : ℕ) (a : Place) (d : Drain) (hub : State) (written : Written) →
    is_closed a.stage ≡ false → IsTold (takes_headers a.stage) [] a.owed a.missed written d.text d.owed d.missed → d.stage ≡ stage_after a.stage written → hub ≡ a.hub →
    IsDrainedTo conn now most a d hub
owed_still conn now most a d hub written still told stage same =
    let t : IsPartTo conn now most a [] d.text (record a { stage = stage_after a.stage written; owed = d.owed; missed = d.missed }) = told_to conn now most a [] d.text d.owed d.missed written still told in
    record {
      happened = t.happened;
      leads = leads_as refl t.after_so (λ i. record a { stage = stage i; owed = d.owed; missed = d.missed; hub = same i }) t.leads;
      of_drain = t.of_drain;
    }

-- all that was owed is written, and then a Take is made
then_taken : (conn now most : ℕ) (a : Place) (d : Drain) (hub : State) →
    is_closed a.stage ≡ false → a.missed ≡ false → IsPartTo conn now most (settled a) (texts (takes_headers a.stage) a.owed) d.text (place_after a d hub) →
    IsDrainedTo conn now most a d hub
then_taken conn now most a d hub still none k =
    let t : IsPartTo conn now most a [] (texts (takes_headers a.stage) a.owed) (settled a) =
    told_to conn now most a [] (texts (takes_headers a.stage) a.owed) [] false All still (refl, refl, none, refl) in
    record {
      happened = t.happened ++ k.happened;
      leads = leads_as refl (k.after_so ∙ ap (λ (x : List ℕ). x ++ k.text) t.after_so) refl (leads_on t.leads k.leads);
      of_drain = both_of_drain now most t.happened k.happened t.of_drain k.of_drain;
    }

pub drains_to : {P : Type 0} (steps : Steps P) (hub_of : P → State) → IsPortTo steps hub_of →
    (conn now most : ℕ) (a : Place) (p : P) (d : Drain) (p' : P) →
    is_closed a.stage ≡ false → hub_of p ≡ a.hub → Drains steps now conn most a.stage a.owed a.missed p d p' →
    IsDrainedTo conn now most a d (hub_of p')
drains_to steps hub_of port conn now most a p d p' still at (inl h) = owed_still conn now most a d (hub_of p') Short still h.told h.stage (ap hub_of h.port ∙ at)
drains_to steps hub_of port conn now most a p d p' still at (inr (inl h)) = owed_still conn now most a d (hub_of p') Closes still h.told h.stage (ap hub_of h.port ∙ at)
drains_to steps hub_of port conn now most a p d p' still at (inr (inr (none, inl h))) =
    then_taken conn now most a d (hub_of p') still none
    (not_taken conn now most a (texts (takes_headers a.stage) a.owed) (Some stall.Memory) d (hub_of p') (ap hub_of h.port ∙ at) h.drain)
drains_to steps hub_of port conn now most a p d p' still at (inr (inr (none, inr h))) =
    then_taken conn now most a d (hub_of p') still none
    (take_to conn now most a (texts (takes_headers a.stage) a.owed) d (hub_of p') h.0 still
    (subst (λ (s : State). IsAnswered IsStep s (event now (command.Take conn most)) h.0 (hub_of p')) at (of_hub steps.step hub_of port.step h.1)) h.2)
