-- What is kept stays current, and nothing else is found.
use Rattle.std.proofs.Common.{◌≡◌, ◌∙◌, ◌<◌, ◌⊎◌, ◌&&◌, nat_eq, inl, inr, ℕ, Bool, true, false, List, ◌∷◌, [], Some, None, Result, Ok, Err, Contains, ap, sym, subst, refl, slice_index_or, arith}
use Rattle.std.specs.Prelude.{All, OnOk, if◌then◌else◌, slice_get}
use Rattle.std.specs.Result.{is_err}
use Rattle.std.specs.Cmp.{booleans_Decides}
use Rattle.std.specs.Cmp.Lexicographic.{pointwise}
use Rattle.std.proofs.Math.Bool.{beq}
use Rattle.std.proofs.lemmas.Bool.{and_parts}
use Rattle.std.proofs.lemmas.Slice.Eq.{bytes_eq-Decides}
use Rattle.std.specs.Map.{lookup}
use Rattle.std.proofs.lemmas.List.{get_or_default}
use Rattle.std.proofs.lemmas.List.Elements.{All-head}
use Rattle.lru.specs.LruCache.{LruCache, promoted, put_entries}
use Rattle.lru.proofs.CallerLemmas.{Contains-lookup, Contains-promoted, Contains-put_entries}
use Rattle.permissions.specs.declared.verdict_cache.asked.Asked.{Asked}
use Rattle.permissions.specs.declared.verdict_cache.cache.Remembered.{Remembered}
use Rattle.permissions.specs.declared.verdict_cache.asked.Action.{Action}
use Rattle.permissions.specs.declared.verdict_cache.asked.Action.TheVariants.{Publish, Subscribe, Deliver}
use Rattle.permissions.specs.contracts.verdict_cache.asked.ActionPartialEq.TheImpl.{eq-value as action_eq}
use Rattle.permissions.specs.contracts.verdict_cache.asked.AskedPartialEq.TheImpl.{eq-value as asked_eq}
use Rattle.permissions.specs.verdict_cache.Verdicts.{Judgement, IsCurrent, Question, asked_of}

abbrev Entry : Type 0
Entry = Asked × Remembered

-- what holds of all holds of one among them
one_of : (P : Entry → Type 0) (es : List Entry) (e : Entry) → All P es → Contains es e → P e
one_of P es e all has = subst P has.2 (all has.0 e has.1)

-- what holds of each among them holds of all
each_of : (P : Entry → Type 0) (es : List Entry) → ((e : Entry) → Contains es e → P e) → All P es
each_of P es each k d below = each (slice_index_or es k d) (k, below, get_or_default es k (slice_index_or es k d) d below)

same_action : (x y : Action) → action_eq.it x y ≡ true → x ≡ y
same_action Publish Publish is = refl
same_action Publish Subscribe is = absurd (cc)
same_action Publish Deliver is = absurd (cc)
same_action Subscribe Publish is = absurd (cc)
same_action Subscribe Subscribe is = refl
same_action Subscribe Deliver is = absurd (cc)
same_action Deliver Publish is = absurd (cc)
same_action Deliver Subscribe is = absurd (cc)
same_action Deliver Deliver is = refl

abbrev made : List ℕ → Action → List ℕ → List ℕ → Bool → Question
made user action text queue has_queue = record { user = user; action = action; text = text; queue = if has_queue then Some queue else None }

-- what is derived to be equal is the same
pub same_asked : (a b : Asked) → asked_eq.it a b ≡ true → asked_of a ≡ asked_of b
same_asked a b is =
    let same_queues : Bool = pointwise nat_eq a.queue.items b.queue.items in
    let same_texts : Bool = pointwise nat_eq a.text.items b.text.items in
    let first = and_parts (pointwise nat_eq a.user.items b.user.items) (action_eq.it a.action b.action && (same_texts && (same_queues && beq a.has_queue b.has_queue))) is in
    let second = and_parts (action_eq.it a.action b.action) (same_texts && (same_queues && beq a.has_queue b.has_queue)) first.1 in
    let third = and_parts same_texts (same_queues && beq a.has_queue b.has_queue) second.1 in
    let last = and_parts same_queues (beq a.has_queue b.has_queue) third.1 in
    ap (λ user. made user a.action a.text.items a.queue.items a.has_queue) ((bytes_eq-Decides a.user.items b.user.items).0 first.0)
    ∙ ap (λ action. made b.user.items action a.text.items a.queue.items a.has_queue) (same_action a.action b.action second.0)
    ∙ ap (λ text. made b.user.items b.action text a.queue.items a.has_queue) ((bytes_eq-Decides a.text.items b.text.items).0 third.0)
    ∙ ap (λ queue. made b.user.items b.action b.text.items queue a.has_queue) ((bytes_eq-Decides a.queue.items b.queue.items).0 last.0)
    ∙ ap (λ has_queue. made b.user.items b.action b.text.items b.queue.items has_queue) ((booleans_Decides a.has_queue b.has_queue).0 last.1)

-- what a result says of its value
pub on_ok : {X E : Type 0} (r : Result X E) (A : Type 0) → is_err r ≡ false → OnOk r A → A
on_ok (Ok x) A good holds = holds
on_ok (Err e) A bad holds = absurd (cc)

pub found : (verdict_of : Judgement) (epoch : ℕ) (test : Asked → Bool) (es : List Entry) (asked : Asked) (known : Remembered) → ((other : Asked) → test other ≡ true → asked_of asked ≡ asked_of other) →
    All (IsCurrent verdict_of epoch) es → lookup test es ≡ Some known → known.epoch ≡ epoch → known.verdict ≡ verdict_of (asked_of asked)
found verdict_of epoch test es asked known same current is now =
    let it = Contains-lookup test es known is in
    (one_of (IsCurrent verdict_of epoch) es (it.0, known) current it.1).same now ∙ ap verdict_of (sym (same it.0 it.2))

-- what stands first is current, whatever stands behind it
pub first_current : (verdict_of : Judgement) (epoch : ℕ) (es : List Entry) (key asked : Asked) (known : Remembered) → asked_of key ≡ asked_of asked → Some (key, known) ≡ slice_get es 0 →
    All (IsCurrent verdict_of epoch) es → known.epoch ≡ epoch → known.verdict ≡ verdict_of (asked_of asked)
first_current verdict_of epoch [] key asked known same is current now = absurd (cc)
first_current verdict_of epoch (e ∷ es) key asked known same is current now =
    let here : (key, known) ≡ e = cc in
    let key_is : key ≡ e.0 = ap (λ (p : Entry). p.0) here in
    let known_is : known ≡ e.1 = ap (λ (p : Entry). p.1) here in
    ap (λ k. k.verdict) known_is
    ∙ (All-head (IsCurrent verdict_of epoch) e es current).same (ap (λ k. k.epoch) (sym known_is) ∙ now)
    ∙ ap verdict_of (ap asked_of (sym key_is) ∙ same)

pub promoted_current : (verdict_of : Judgement) (epoch : ℕ) (test : Asked → Bool) (es : List Entry) → All (IsCurrent verdict_of epoch) es → All (IsCurrent verdict_of epoch) (promoted test es)
promoted_current verdict_of epoch test es current =
    each_of (IsCurrent verdict_of epoch) (promoted test es) (λ e has. one_of (IsCurrent verdict_of epoch) es e current (Contains-promoted test es e has))

pub put_current : (verdict_of : Judgement) (epoch : ℕ) (eq : Asked → Asked → Bool) (cache : LruCache Asked Remembered) (asked : Asked) (known : Remembered) →
    ((other : Asked) → eq asked other ≡ true → asked_of asked ≡ asked_of other) → All (IsCurrent verdict_of epoch) cache.entries →
    known.epoch ≡ epoch → known.verdict ≡ verdict_of (asked_of asked) → All (IsCurrent verdict_of epoch) (put_entries eq cache asked known)
put_current verdict_of epoch eq cache asked known same current now is =
    each_of (IsCurrent verdict_of epoch) (put_entries eq cache asked known) (λ e has. elim (Contains-put_entries eq cache asked known e has) [
      | inl before ↦ one_of (IsCurrent verdict_of epoch) cache.entries e current before
      | inr new ↦ put e (asked_is e new.1) new.0
    ])
  where
    asked_is : (e : Entry) → ((e.0 ≡ asked) ⊎ ((w : Remembered) × Contains cache.entries (e.0, w) × (eq asked e.0 ≡ true))) → asked_of asked ≡ asked_of e.0
    asked_is e (inl here) = ap asked_of (sym here)
    asked_is e (inr alike) = same e.0 alike.2

    put : (e : Entry) → asked_of asked ≡ asked_of e.0 → e.1 ≡ known → IsCurrent verdict_of epoch e
    put e one here = record {
      no_later = let its : e.1.epoch ≡ epoch = ap (λ k. k.epoch) here ∙ now in omega (arith, its);
      same = λ _. ap (λ k. k.verdict) here ∙ is ∙ ap verdict_of one;
    }

pub none_outlives : (old new : Judgement) (epoch later : ℕ) (es : List Entry) → epoch < later → All (IsCurrent old epoch) es → All (IsCurrent new later) es
none_outlives old new epoch later es raised current =
    each_of (IsCurrent new later) es (λ e has. let it = one_of (IsCurrent old epoch) es e current has in record {
      no_later = omega (arith, it.no_later, raised);
      same = λ is. absurd (omega (arith, it.no_later, raised, is));
    })
