-- What always holds of a session's grants is kept by each change of them, and what they allow.
use Rattle.std.proofs.Common.{◌≡◌, ◌∙◌, ◌==◌, ◌&&◌, ◌||◌, ℕ, ◌-◌, ◌≤◌, suc, zero, Bool, true, false, not, cond, List, [], ◌∷◌, ◌++◌, filter, drop, length, get_or, Option, Some, None, ap, sym, refl, subst, arith}
use Rattle.std.specs.Prelude.{All, AllPairs, is_some}
use Rattle.std.specs.Option.{option_map, option_or}
use Rattle.std.specs.Cmp.Lexicographic.{pointwise_decides, bytes_decides}
use Rattle.std.proofs.lemmas.List.{length-drop, length-map}
use Rattle.std.proofs.lemmas.List.Elements.{All-nil, All-cons, All-head, All-tail, All-push, All-drop, All-map, All-filter, filter_passes}
use Rattle.std.proofs.lemmas.List.Kept.{AllPairs-filter}
use Rattle.std.proofs.lemmas.List.Filters.{length-filter_both}
use Rattle.std.proofs.lemmas.List.Quantifiers.{all_pairs_push}
use Rattle.subjects.specs.Subject.{Token}
use Rattle.subjects.specs.Equal.{same_subject, same_subject-equiv}
use Rattle.policy_doc.specs.declared.permission_doc.document.Terms.{Terms}
use Rattle.reply_grants.specs.Grants.{Grant, is_below, is_within, is_live, is_for, has_live, without, after_note, answered, after_end, after_response}
use Rattle.reply_grants.specs.Replies.{Table, grants_of, noted, responded_in, ended_in, judged}
use Rattle.reply_grants.specs.declared.replies.Note.{Note}
use Rattle.events.specs.declared.answer.Delivery.{Delivery}
use Rattle.hub.specs.Kept.{is_open, has_response_left, IsAfter, AreApart, AreKept, IsKeptTable}
use Rattle.world_sessions.specs.deliveries.Replying.{note_of}
use Rattle.hub.specs.Replies.{is_young, is_live_for, has_grant, noted_at, noted_each}
use Rattle.hub.proofs.Finds.{AllPairs-head, AllPairs-tail, AllPairs-map}

-- ---- what they allow

pub open_is : (max : Option ℕ) (count : ℕ) → is_below max count ≡ is_open max count
open_is None count = refl
open_is (Some max) count = refl

young_is : (expires : Option ℕ) (age : ℕ) → is_within expires age ≡ is_young expires age
young_is None age = refl
young_is (Some expires) age = refl

never : (b : Bool) → (b && false) ≡ false
never true = refl
never false = refl

-- a live grant is one that the guarantee speaks of
pub granted_is : (s : List Token) (now : ℕ) (terms : Option Terms) (gs : List Grant) → has_live s now terms gs ≡ has_grant now s terms gs
granted_is s now None [] = refl
granted_is s now None (g ∷ gs) = ap (λ b. b || has_live s now None gs) (never (is_for s g)) ∙ granted_is s now None gs
granted_is s now (Some terms) [] = refl
granted_is s now (Some terms) (g ∷ gs) =
    ap (λ b. (same_subject s g.subject && (b && is_within terms.expires (now - g.noted))) || has_live s now (Some terms) gs) (open_is terms.max g.count)
    ∙ ap (λ b. (same_subject s g.subject && (is_open terms.max g.count && b)) || has_live s now (Some terms) gs) (young_is terms.expires (now - g.noted))
    ∙ ap (λ b. is_live_for now s terms g || b) (granted_is s now (Some terms) gs)

-- ---- their order

-- the grants but for their counts
pub record AreInOrder (now : ℕ) (gs : List Grant) : Type 0 where
  pub few : length gs ≤ 1024
  pub apart : AllPairs AreApart gs
  pub rising : AllPairs IsAfter gs
  pub past : All (λ (g : Grant). g.noted ≤ now) gs

abbrev NotedBy : ℕ → Grant → Type 0
NotedBy now g = g.noted ≤ now

pub in_order : (now : ℕ) (terms : Terms) (gs : List Grant) → AreKept now terms gs → AreInOrder now gs
in_order now terms gs kept = record { few = kept.few; apart = kept.apart; rising = kept.rising; past = kept.past }

order_none : (now : ℕ) → AreInOrder now []
order_none now = record {
  few = omega arith;
  apart = λ i j d h k. absurd (omega (arith, k));
  rising = λ i j d h k. absurd (omega (arith, k));
  past = All-nil (NotedBy now);
}

-- the clock goes on
order_later : (now later : ℕ) (gs : List Grant) → now ≤ later → AreInOrder now gs → AreInOrder later gs
order_later now later gs le is = record {
  few = is.few;
  apart = is.apart;
  rising = is.rising;
  past = λ k d h. let p = is.past k d h in omega (arith, p, le);
}

pub order_filter : (now : ℕ) (p : Grant → Bool) (gs : List Grant) → AreInOrder now gs → AreInOrder now (filter p gs)
order_filter now p gs is = record {
  few = omega (arith, length-filter_both p (λ g. not (p g)) (λ g. refl) gs, is.few);
  apart = AllPairs-filter AreApart p gs is.apart;
  rising = AllPairs-filter IsAfter p gs is.rising;
  past = All-filter p (NotedBy now) gs is.past;
}

-- an answer changes counts alone
same_but_count : (s : List Token) (g : Grant) → ((cond (is_for s g) (answered g) g).subject ≡ g.subject) × ((cond (is_for s g) (answered g) g).noted ≡ g.noted)
same_but_count s g = here (is_for s g)
  where
    here : (b : Bool) → ((cond b (answered g) g).subject ≡ g.subject) × ((cond b (answered g) g).noted ≡ g.noted)
    here true = (refl, refl)
    here false = (refl, refl)

pub order_answer : (now : ℕ) (s : List Token) (gs : List Grant) → AreInOrder now gs → AreInOrder now (after_response s gs)
order_answer now s gs is = record {
  few = omega (arith, length-map gs counted, is.few);
  apart = AllPairs-map AreApart counted gs (λ g h apart. ap (λ t. same_subject t (counted h).subject) (same_but_count s g).0 ∙ ap (λ t. same_subject g.subject t) (same_but_count s h).0 ∙ apart) is.apart;
  rising = AllPairs-map IsAfter counted gs (λ g h le. let a = (same_but_count s g).1 in let b = (same_but_count s h).1 in omega (arith, a, b, le)) is.rising;
  past = All-map (NotedBy now) counted gs (λ k d h. let a = (same_but_count s (get_or gs k d)).1 in let le = is.past k d h in omega (arith, a, le));
}
  where
    counted : Grant → Grant
    counted g = cond (is_for s g) (answered g) g

pub not-false : (b : Bool) → not b ≡ true → b ≡ false
not-false true h = absurd (cc)
not-false false h = refl

AllPairs-drop : {X : Type 0} (R : X → X → Type 0) (n : ℕ) (xs : List X) → AllPairs R xs → AllPairs R (drop n xs)
AllPairs-drop R zero xs all = all
AllPairs-drop R (suc n) [] all = all
AllPairs-drop R (suc n) (x ∷ xs) all = AllPairs-drop R n xs (AllPairs-tail R x xs all)

-- one that is noted now, for a subject
abbrev fresh : List Token → ℕ → Grant
fresh s now = record { subject = s; noted = now; count = 0 }

-- those for other subjects
others : (s : List Token) (gs : List Grant) → All (λ (g : Grant). is_for s g ≡ false) (without s gs)
others s gs k d h = not-false (is_for s (get_or (without s gs) k d)) (filter_passes (λ (g : Grant). not (is_for s g)) gs k d h)

pub order_note : (now : ℕ) (s : List Token) (gs : List Grant) → AreInOrder now gs → AreInOrder now (after_note s now gs)
order_note now s gs is = record {
  few = omega (arith, length-drop n all);
  apart = AllPairs-drop AreApart n all (all_pairs_push AreApart rest (fresh s now) left.apart (λ k d h. same_subject-equiv.symm (get_or rest k d).subject s ∙ others s gs k d h));
  rising = AllPairs-drop IsAfter n all (all_pairs_push IsAfter rest (fresh s now) left.rising (λ k d h. left.past k d h));
  past = All-drop (NotedBy now) n all (All-push (NotedBy now) rest (fresh s now) left.past (omega arith));
}
  where
    rest : List Grant
    rest = without s gs

    all : List Grant
    all = rest ++ fresh s now ∷ []

    n : ℕ
    n = length all - 1024

    left : AreInOrder now rest
    left = order_filter now (λ (g : Grant). not (is_for s g)) gs is

-- ---- answers left

-- each has an answer left, but perhaps the one for a subject
abbrev Spares : Terms → List Token → Grant → Type 0
Spares terms s g = (is_for s g || has_response_left terms.max g.count) ≡ true

abbrev HasLeft : Terms → Grant → Type 0
HasLeft terms g = has_response_left terms.max g.count ≡ true

or-right : (a b : Bool) → b ≡ true → (a || b) ≡ true
or-right true b h = refl
or-right false b h = h

spared : (terms : Terms) (s : List Token) (gs : List Grant) → All (HasLeft terms) gs → All (Spares terms s) gs
spared terms s gs all k d h = or-right (is_for s (get_or gs k d)) _ (all k d h)

spared_answer : (terms : Terms) (s : List Token) (gs : List Grant) → All (Spares terms s) gs → All (Spares terms s) (after_response s gs)
spared_answer terms s gs all = All-map (Spares terms s) (λ (g : Grant). cond (is_for s g) (answered g) g) gs (λ k d h. here (get_or gs k d) (is_for s (get_or gs k d)) refl (all k d h))
  where
    here : (g : Grant) (b : Bool) → is_for s g ≡ b → Spares terms s g → Spares terms s (cond b (answered g) g)
    here g true is h = ap (λ b. b || has_response_left terms.max (answered g).count) is
    here g false is h = h

spared_note : (terms : Terms) (s r : List Token) (now : ℕ) (gs : List Grant) → All (Spares terms s) gs → All (Spares terms s) (after_note r now gs)
spared_note terms s r now gs all =
    All-drop (Spares terms s) _ _ (All-push (Spares terms s) (without r gs) (fresh r now) (All-filter (λ (g : Grant). not (is_for r g)) (Spares terms s) gs all) (or-right (is_for s (fresh r now)) true refl))

left_note : (terms : Terms) (r : List Token) (now : ℕ) (gs : List Grant) → All (HasLeft terms) gs → All (HasLeft terms) (after_note r now gs)
left_note terms r now gs all =
    All-drop (HasLeft terms) _ _ (All-push (HasLeft terms) (without r gs) (fresh r now) (All-filter (λ (g : Grant). not (is_for r g)) (HasLeft terms) gs all) refl)

-- one that is live at the moment 0 has an answer left
open_left : (terms : Terms) (g : Grant) → is_live 0 (Some terms) g ≡ true → HasLeft terms g
open_left terms g h = or-right (g.count == 0) _ (sym (open_is terms.max g.count) ∙ front (is_below terms.max g.count) _ h)
  where
    front : (a b : Bool) → (a && b) ≡ true → a ≡ true
    front true b h = refl
    front false b h = absurd (cc)

same_is : (s t : List Token) → same_subject s t ≡ true → s ≡ t
same_is s t = (pointwise_decides bytes_decides s t).0

none_for : (s : List Token) (now : ℕ) (terms : Option Terms) (gs : List Grant) → All (λ (g : Grant). is_for s g ≡ false) gs → has_live s now terms gs ≡ false
none_for s now terms [] all = refl
none_for s now terms (g ∷ gs) all =
    ap (λ b. (b && is_live now terms g) || has_live s now terms gs) (All-head (λ (g : Grant). is_for s g ≡ false) g gs all)
    ∙ none_for s now terms gs (All-tail (λ (g : Grant). is_for s g ≡ false) g gs all)

-- where the subject's grant has an answer left, each has
left_live : (terms : Terms) (s : List Token) (gs : List Grant) → AllPairs AreApart gs → All (Spares terms s) gs → has_live s 0 (Some terms) gs ≡ true → All (HasLeft terms) gs
left_live terms s [] apart all live = All-nil (HasLeft terms)
left_live terms s (g ∷ gs) apart all live =
    by_subject (is_for s g) refl (left_live terms s gs (AllPairs-tail AreApart g gs apart) rest)
  where
    rest : All (Spares terms s) gs
    rest = All-tail (Spares terms s) g gs all

    first : Spares terms s g
    first = All-head (Spares terms s) g gs all

    no_other : is_for s g ≡ true → All (λ (h : Grant). is_for s h ≡ false) gs
    no_other is k d h = ap (λ t. same_subject t (get_or gs k d).subject) (same_is s g.subject is) ∙ AllPairs-head AreApart g gs apart k d h

    by_live : is_for s g ≡ true → (b : Bool) → is_live 0 (Some terms) g ≡ b → (b || has_live s 0 (Some terms) gs) ≡ true → is_live 0 (Some terms) g ≡ true
    by_live is true it h = it
    by_live is false it h = let none : has_live s 0 (Some terms) gs ≡ false = none_for s 0 (Some terms) gs (no_other is) in absurd (cc)

    by_subject : (b : Bool) → is_for s g ≡ b → (has_live s 0 (Some terms) gs ≡ true → All (HasLeft terms) gs) → All (HasLeft terms) (g ∷ gs)
    by_subject true is later =
        All-cons (HasLeft terms) g gs
        (open_left terms g (by_live is (is_live 0 (Some terms) g) refl (ap (λ b. (b && is_live 0 (Some terms) g) || has_live s 0 (Some terms) gs) (sym is) ∙ live)))
        (λ k d h. ap (λ b. b || has_response_left terms.max (get_or gs k d).count) (sym (no_other is k d h)) ∙ rest k d h)
    by_subject false is later =
        All-cons (HasLeft terms) g gs
        (ap (λ b. b || has_response_left terms.max g.count) (sym is) ∙ first)
        (later (ap (λ b. (b && is_live 0 (Some terms) g) || has_live s 0 (Some terms) gs) (sym is) ∙ live))

left_end : (terms : Terms) (s : List Token) (gs : List Grant) → AllPairs AreApart gs → All (Spares terms s) gs → All (HasLeft terms) (after_end s (Some terms) gs)
left_end terms s gs apart all = here (has_live s 0 (Some terms) gs) refl
  where
    here : (b : Bool) → has_live s 0 (Some terms) gs ≡ b → All (HasLeft terms) (cond b gs (without s gs))
    here true is = left_live terms s gs apart all is
    here false is = λ k d h.
        ap (λ b. b || has_response_left terms.max (get_or (without s gs) k d).count) (sym (others s gs k d h))
        ∙ All-filter (λ (g : Grant). not (is_for s g)) (Spares terms s) gs all k d h

order_end : (now : ℕ) (s : List Token) (terms : Option Terms) (gs : List Grant) → AreInOrder now gs → AreInOrder now (after_end s terms gs)
order_end now s terms gs is = here (has_live s 0 terms gs)
  where
    here : (b : Bool) → AreInOrder now (cond b gs (without s gs))
    here true = is
    here false = order_filter now (λ (g : Grant). not (is_for s g)) gs is

-- ---- tables

kept_by : (now : ℕ) (terms : Terms) (gs : List Grant) → AreInOrder now gs → All (HasLeft terms) gs → AreKept now terms gs
kept_by now terms gs order left = record { few = order.few; apart = order.apart; rising = order.rising; past = order.past; unspent = left }

pub kept_none : (now : ℕ) (terms : Option Terms) → IsKeptTable now terms None
kept_none now None = refl
kept_none now (Some terms) = kept_by now terms [] (order_none now) (All-nil (HasLeft terms))

pub kept_later : (now later : ℕ) (terms : Option Terms) (table : Table) → now ≤ later → IsKeptTable now terms table → IsKeptTable later terms table
kept_later now later None table le is = is
kept_later now later (Some terms) table le is = kept_by later terms (grants_of table) (order_later now later (grants_of table) le (in_order now terms (grants_of table) is)) is.unspent

-- what is noted with the terms of a user that may answer
pub kept_note : (now : ℕ) (terms : Terms) (note : Note) (table : Table) → note.table ≡ cond (is_some table) None (Some []) → IsKeptTable now (Some terms) table → IsKeptTable now (Some terms) (noted note now table)
kept_note now terms note None brings is =
    subst (λ (t : Table). AreKept now terms (grants_of (option_map (after_note note.subject now) (option_or None t)))) (sym brings)
    (kept_by now terms (after_note note.subject now []) (order_note now note.subject [] (order_none now)) (left_note terms note.subject now [] (All-nil (HasLeft terms))))
kept_note now terms note (Some gs) brings is =
    kept_by now terms (after_note note.subject now gs) (order_note now note.subject gs (in_order now terms gs is)) (left_note terms note.subject now gs is.unspent)

-- what is noted of one delivery that has entered, and of each in turn
kept_at : (now : ℕ) (terms : Terms) (reply : Option (List Token)) (table : Table) → IsKeptTable now (Some terms) table → IsKeptTable now (Some terms) (noted_at now (Some terms) reply table)
kept_at now terms None table is = is
kept_at now terms (Some r) table is = kept_note now terms (note_of r table) table refl is

none_at : (now : ℕ) (reply : Option (List Token)) (table : Table) → noted_at now None reply table ≡ table
none_at now None table = refl
none_at now (Some r) table = refl

none_each : (now : ℕ) (ds : List Delivery) (table : Table) → noted_each now None ds table ≡ table
none_each now [] table = refl
none_each now (d ∷ ds) table = none_each now ds (noted_at now None d.message.reply table) ∙ none_at now d.message.reply table

kept_each : (now : ℕ) (terms : Option Terms) (ds : List Delivery) (table : Table) → IsKeptTable now terms table → IsKeptTable now terms (noted_each now terms ds table)
kept_each now None ds table is = none_each now ds table ∙ is
kept_each now (Some terms) [] table is = is
kept_each now (Some terms) (d ∷ ds) table is = kept_each now (Some terms) ds (noted_at now (Some terms) d.message.reply table) (kept_at now terms d.message.reply table is)

-- the grants while an answer is under way: its own may have none left
record AreSpared (now : ℕ) (terms : Terms) (s : List Token) (gs : List Grant) : Type 0 where
  pub order : AreInOrder now gs
  pub left : All (Spares terms s) gs

spared_begin : (now : ℕ) (terms : Terms) (s : List Token) (table : Table) → IsKeptTable now (Some terms) table → AreSpared now terms s (grants_of (responded_in s table))
spared_begin now terms s None is = record { order = order_none now; left = All-nil (Spares terms s) }
spared_begin now terms s (Some gs) is =
    record { order = order_answer now s gs (in_order now terms gs is); left = spared_answer terms s gs (spared terms s gs is.unspent) }

spared_at : (now : ℕ) (terms : Terms) (s : List Token) (reply : Option (List Token)) (table : Table) → AreSpared now terms s (grants_of table) → AreSpared now terms s (grants_of (noted_at now (Some terms) reply table))
spared_at now terms s None table is = is
spared_at now terms s (Some r) None is = record { order = order_note now r [] is.order; left = spared_note terms s r now [] is.left }
spared_at now terms s (Some r) (Some gs) is = record { order = order_note now r gs is.order; left = spared_note terms s r now gs is.left }

spared_each : (now : ℕ) (terms : Terms) (s : List Token) (ds : List Delivery) (table : Table) → AreSpared now terms s (grants_of table) → AreSpared now terms s (grants_of (noted_each now (Some terms) ds table))
spared_each now terms s [] table is = is
spared_each now terms s (d ∷ ds) table is = spared_each now terms s ds (noted_at now (Some terms) d.message.reply table) (spared_at now terms s d.message.reply table is)

spared_end : (now : ℕ) (terms : Terms) (s : List Token) (table : Table) → AreSpared now terms s (grants_of table) → IsKeptTable now (Some terms) (ended_in s (Some terms) table)
spared_end now terms s None is = kept_none now (Some terms)
spared_end now terms s (Some gs) is =
    kept_by now terms (after_end s (Some terms) gs) (order_end now s (Some terms) gs is.order) (left_end terms s gs is.order.apart is.left)

-- what a publish leaves, be it an answer or not
pub kept_after : (now : ℕ) (answer : Bool) (s : List Token) (ds : List Delivery) (terms : Option Terms) (table : Table) → IsKeptTable now terms table →
    IsKeptTable now terms (cond answer (ended_in s terms (noted_each now terms ds (responded_in s table))) (noted_each now terms ds table))
kept_after now true s ds None table is = ap (ended_in s None) (none_each now ds (responded_in s table)) ∙ ap (λ (t : Table). ended_in s None (responded_in s t)) is
kept_after now false s ds None table is = kept_each now None ds table is
kept_after now true s ds (Some terms) table is =
    spared_end now terms s (noted_each now (Some terms) ds (responded_in s table)) (spared_each now terms s ds (responded_in s table) (spared_begin now terms s table is))
kept_after now false s ds (Some terms) table is = kept_each now (Some terms) ds table is

-- other terms come into force
pub kept_judged : (now : ℕ) (before terms : Option Terms) (table : Table) → IsKeptTable now before table → IsKeptTable now terms (judged now before terms table)
kept_judged now before None table is = refl
kept_judged now before (Some terms) None is = kept_none now (Some terms)
kept_judged now None (Some terms) (Some gs) is = absurd (cc)
kept_judged now (Some old) (Some terms) (Some gs) is =
    let left = filter (is_live now (Some old)) gs in
    kept_by now terms (filter (is_live now (Some terms)) left)
    (order_filter now (is_live now (Some terms)) left (order_filter now (is_live now (Some old)) gs (in_order now old gs is)))
    (λ k d h. live_left (get_or (filter (is_live now (Some terms)) left) k d) (filter_passes (is_live now (Some terms)) left k d h))
  where
    front : (a b : Bool) → (a && b) ≡ true → a ≡ true
    front true b h = refl
    front false b h = absurd (cc)

    live_left : (g : Grant) → is_live now (Some terms) g ≡ true → HasLeft terms g
    live_left g h = or-right (g.count == 0) _ (sym (open_is terms.max g.count) ∙ front (is_below terms.max g.count) _ h)

-- what all pass is kept whole
pub all_pass : {X : Type 0} (p : X → Bool) (xs : List X) → All (λ x. p x ≡ true) xs → filter p xs ≡ xs
all_pass p [] all = refl
all_pass p (x ∷ xs) all =
    ap (λ b. cond b (x ∷ filter p xs) (filter p xs)) (All-head (λ y. p y ≡ true) x xs all)
    ∙ ap (λ ys. x ∷ ys) (all_pass p xs (All-tail (λ y. p y ≡ true) x xs all))
