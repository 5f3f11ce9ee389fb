-- What a grant tells of the history, a step later.
use Rattle.std.proofs.Common.{◌≡◌, ◌∙◌, ◌&&◌, ◌||◌, ℕ, ◌+◌, ◌-◌, ◌^◌, Bool, true, false, not, cond, List, [], ◌∷◌, ◌++◌, filter, length, get_or, Option, Some, None, ap, sym, refl, subst, arith, max}
use Rattle.std.specs.Prelude.{All, IfSome, min}
use Rattle.std.specs.List.{list_any}
use Rattle.std.proofs.Math.Bool.{or-true}
use Rattle.std.proofs.lemmas.List.{append_assoc, length-append}
use Rattle.std.proofs.lemmas.List.Elements.{All-nil, All-cons, All-push, All-drop, All-map, All-filter, All-weaker, All-head, All-tail, filter_passes, filter-append}
use Rattle.subjects.specs.Subject.{Token}
use Rattle.subjects.specs.Equal.{same_subject, same_subject-equiv}
use Rattle.policy_doc.specs.declared.permission_doc.document.Terms.{Terms}
use Rattle.reply_grants.specs.Grants.{Grant, is_live, is_for, has_live, without, answered, after_note}
use Rattle.reply_grants.specs.Replies.{Table, grants_of, responded_in, ended_in, judged}
use Rattle.events.specs.declared.answer.Delivery.{Delivery}
use Rattle.hub.specs.Replies.{noted_at, noted_each}
use Rattle.hub.proofs.Grants.{not-false}
use Rattle.hub_laws.specs.grants.Noted.{Step, is_reply, asks_on, is_request, is_response, is_end, responses_on, latest, IsNoted}

-- ---- one step more

pub latest-more : (steps : List Step) (a : Step) → latest (steps ++ a ∷ []) ≡ max (latest steps) a.entry.event.now
latest-more [] a = omega arith
latest-more (b ∷ steps) a = omega (arith, latest-more steps a)

responses-more : (conn : ℕ) (s : List Token) (steps : List Step) (a : Step) → responses_on conn s (steps ++ a ∷ []) ≡ responses_on conn s steps + cond (is_response conn s a) 1 0
responses-more conn s steps a =
    ap (λ (l : List Step). length l) (filter-append (is_response conn s) steps (a ∷ []))
    ∙ length-append (filter (is_response conn s) steps) (filter (is_response conn s) (a ∷ []))
    ∙ ap (λ n. responses_on conn s steps + n) (one (is_response conn s a))
  where
    one : (b : Bool) → length (cond b (a ∷ []) []) ≡ cond b 1 0
    one true = refl
    one false = refl

-- a grant has counted the step, which is no request for it
more : (steps : List Step) (a : Step) (conn : ℕ) (g : Grant) (count : ℕ) → IsNoted steps conn g → is_end conn a ≡ false → is_request conn g.subject a ≡ false →
    ((n : ℕ) → g.count ≡ min (2 ^ 64 - 1) n → count ≡ min (2 ^ 64 - 1) (n + cond (is_response conn g.subject a) 1 0)) → IsNoted (steps ++ a ∷ []) conn (record g { count = count })
more steps a conn g count is lasts other counts = record {
  before = is.before;
  made = is.made;
  since = is.since ++ a ∷ [];
  request = record {
    all = ap (λ l. l ++ a ∷ []) is.request.all ∙ append_assoc is.before (is.made ∷ is.since) (a ∷ []);
    request = is.request.request;
    last = All-push (λ (step : Step). is_request conn g.subject step ≡ false) is.since a is.request.last other;
    session = All-push (λ (step : Step). is_end conn step ≡ false) is.since a is.request.session lasts;
  };
  noted = is.noted;
  count = counts (responses_on conn g.subject is.since) is.count ∙ ap (min (2 ^ 64 - 1)) (sym (responses-more conn g.subject is.since a));
}

count-none : (bound r n k : ℕ) → k ≡ 0 → r ≡ min bound n → r ≡ min bound (n + k)
count-none bound r n k none is = omega (arith, none, is)

count-one : (bound r n k : ℕ) → k ≡ 1 → r ≡ min bound n → min (r + 1) bound ≡ min bound (n + k)
count-one bound r n k one is = omega (arith, one, is)

-- it has, unless the step is a request for it
abbrev IsNotedUnless : List Step → Step → ℕ → Grant → Type 0
IsNotedUnless steps a conn g = is_request conn g.subject a ≡ false → IsNoted (steps ++ a ∷ []) conn g

unanswered : (steps : List Step) (a : Step) (conn : ℕ) (g : Grant) → is_end conn a ≡ false → is_response conn g.subject a ≡ false → IsNoted steps conn g → IsNotedUnless steps a conn g
unanswered steps a conn g lasts none is other =
    more steps a conn g g.count is lasts other (λ n. count-none (2 ^ 64 - 1) g.count n _ (ap (λ b. cond b 1 0) none))

counted : (steps : List Step) (a : Step) (conn : ℕ) (g : Grant) → is_end conn a ≡ false → is_response conn g.subject a ≡ true → IsNoted steps conn g → IsNotedUnless steps a conn (answered g)
counted steps a conn g lasts one is other =
    more steps a conn g (answered g).count is lasts other (λ n. count-one (2 ^ 64 - 1) g.count n _ (ap (λ b. cond b 1 0) one))

-- one that is noted with the step
fresh : (steps : List Step) (a : Step) (conn : ℕ) (s : List Token) (now : ℕ) → is_request conn s a ≡ true → now ≡ latest (steps ++ a ∷ []) →
    IsNoted (steps ++ a ∷ []) conn (record { subject = s; noted = now; count = 0 })
fresh steps a conn s now asks is = record {
  before = steps;
  made = a;
  since = [];
  request = record {
    all = refl;
    request = asks;
    last = All-nil (λ (step : Step). is_request conn s step ≡ false);
    session = All-nil (λ (step : Step). is_end conn step ≡ false);
  };
  noted = is;
  count = omega arith;
}

-- ---- a publish

-- the grants of one connection, and what a publish is to them: whether it was the connection's response, on this subject,
-- and which deliveries have entered for it
module _ (steps : List Step) (a : Step) (conn : ℕ) (lasts : is_end conn a ≡ false) where
  answered-one : (s : List Token) (g : Grant) → ((t : List Token) → is_response conn t a ≡ same_subject s t) → IsNoted steps conn g → IsNotedUnless steps a conn (cond (is_for s g) (answered g) g)
  answered-one s g tells is = here (is_for s g) refl
    where
      here : (b : Bool) → is_for s g ≡ b → IsNotedUnless steps a conn (cond b (answered g) g)
      here true own = counted steps a conn g lasts (tells g.subject ∙ own) is
      here false own = unanswered steps a conn g lasts (tells g.subject ∙ own) is

  answered-table : (s : List Token) (table : Table) → ((t : List Token) → is_response conn t a ≡ same_subject s t) → All (IsNoted steps conn) (grants_of table) → All (IsNotedUnless steps a conn) (grants_of (responded_in s table))
  answered-table s None tells all = All-nil (IsNotedUnless steps a conn)
  answered-table s (Some gs) tells all =
      All-map (IsNotedUnless steps a conn) (λ (g : Grant). cond (is_for s g) (answered g) g) gs (λ k d h. answered-one s (get_or gs k d) tells (all k d h))

  plain-table : (table : Table) → ((t : List Token) → is_response conn t a ≡ false) → All (IsNoted steps conn) (grants_of table) → All (IsNotedUnless steps a conn) (grants_of table)
  plain-table table tells all = All-weaker (IsNoted steps conn) (IsNotedUnless steps a conn) (λ g is. unanswered steps a conn g lasts (tells g.subject) is) (grants_of table) all

  -- ---- what the deliveries ask for is noted, one after the other

  -- a grant is noted, unless one of these that are still to be noted asks for its subject
  abbrev IsNotedUntil : List Delivery → Grant → Type 0
  IsNotedUntil ds g = list_any (asks_on g.subject) ds ≡ false → IsNoted (steps ++ a ∷ []) conn g

  -- each reply of a delivery is a request of the step
  abbrev IsAsked : Delivery → Type 0
  IsAsked d = IfSome d.message.reply (λ (r : List Token). is_request conn r a ≡ true)

  are-asked : (ds : List Delivery) → ((t : List Token) → is_request conn t a ≡ list_any (asks_on t) ds) → All IsAsked ds
  are-asked ds tells = each ds (λ t asks. tells t ∙ asks)
    where
      each : (ds : List Delivery) → ((t : List Token) → list_any (asks_on t) ds ≡ true → is_request conn t a ≡ true) → All IsAsked ds
      each [] are = All-nil IsAsked
      each (d ∷ ds) are =
          All-cons IsAsked d ds (first d.message.reply (λ t asks. are t (ap (λ b. b || list_any (asks_on t) ds) asks)))
          (each ds (λ t asks. are t (ap (λ b. asks_on t d || b) asks ∙ or-true (asks_on t d))))
        where
          first : (o : Option (List Token)) → ((t : List Token) → is_reply t o ≡ true → is_request conn t a ≡ true) → IfSome o (λ (r : List Token). is_request conn r a ≡ true)
          first None are = tt
          first (Some r) are = are r (same_subject-equiv.refl r)

  -- one more is noted
  noted-list : (now : ℕ) (r : List Token) (ds : List Delivery) (gs : List Grant) → is_request conn r a ≡ true → now ≡ latest (steps ++ a ∷ []) →
      All (λ (g : Grant). (same_subject r g.subject || list_any (asks_on g.subject) ds) ≡ false → IsNoted (steps ++ a ∷ []) conn g) gs → All (IsNotedUntil ds) (after_note r now gs)
  noted-list now r ds gs asks is all =
      All-drop (IsNotedUntil ds) _ _
      (All-push (IsNotedUntil ds) (without r gs) (record { subject = r; noted = now; count = 0 }) others (λ rest. fresh steps a conn r now asks is))
    where
      others : All (IsNotedUntil ds) (without r gs)
      others k d h = λ rest.
          All-filter (λ (g : Grant). not (is_for r g)) (λ (g : Grant). (same_subject r g.subject || list_any (asks_on g.subject) ds) ≡ false → IsNoted (steps ++ a ∷ []) conn g) gs all k d h
          (ap (λ b. b || list_any (asks_on (get_or (without r gs) k d).subject) ds) (not-false _ (filter_passes (λ (g : Grant). not (is_for r g)) gs k d h)) ∙ rest)

  noted-one : (now : ℕ) (terms : Option Terms) (reply : Option (List Token)) (ds : List Delivery) (table : Table) → IfSome reply (λ (r : List Token). is_request conn r a ≡ true) → now ≡ latest (steps ++ a ∷ []) → (terms ≡ None → table ≡ None) →
      All (λ (g : Grant). (is_reply g.subject reply || list_any (asks_on g.subject) ds) ≡ false → IsNoted (steps ++ a ∷ []) conn g) (grants_of table) → All (IsNotedUntil ds) (grants_of (noted_at now terms reply table))
  noted-one now terms None ds table asks is bare all = all
  noted-one now None (Some r) ds table asks is bare all = subst (λ (t : Table). All (IsNotedUntil ds) (grants_of t)) (sym (bare refl)) (All-nil (IsNotedUntil ds))
  noted-one now (Some terms) (Some r) ds None asks is bare all = noted-list now r ds [] asks is all
  noted-one now (Some terms) (Some r) ds (Some gs) asks is bare all = noted-list now r ds gs asks is all

  still-bare : (now : ℕ) (terms : Option Terms) (reply : Option (List Token)) (table : Table) → (terms ≡ None → table ≡ None) → terms ≡ None → noted_at now terms reply table ≡ None
  still-bare now terms None table bare none = bare none
  still-bare now None (Some r) table bare none = bare none
  still-bare now (Some terms) (Some r) table bare none = absurd (cc)

  noted-each : (now : ℕ) (terms : Option Terms) (ds : List Delivery) (table : Table) → All IsAsked ds → now ≡ latest (steps ++ a ∷ []) → (terms ≡ None → table ≡ None) → All (IsNotedUntil ds) (grants_of table) →
      All (IsNoted (steps ++ a ∷ []) conn) (grants_of (noted_each now terms ds table))
  noted-each now terms [] table asks is bare all = All-weaker (IsNotedUntil []) (IsNoted (steps ++ a ∷ []) conn) (λ g noted. noted refl) (grants_of table) all
  noted-each now terms (d ∷ ds) table asks is bare all =
      noted-each now terms ds (noted_at now terms d.message.reply table) (All-tail IsAsked d ds asks) is (still-bare now terms d.message.reply table bare)
      (noted-one now terms d.message.reply ds table (All-head IsAsked d ds asks) is bare all)

  noted-table : (now : ℕ) (ds : List Delivery) (terms : Option Terms) (table : Table) → ((t : List Token) → is_request conn t a ≡ list_any (asks_on t) ds) → (terms ≡ None → table ≡ None) →
      now ≡ latest (steps ++ a ∷ []) → All (IsNotedUnless steps a conn) (grants_of table) → All (IsNoted (steps ++ a ∷ []) conn) (grants_of (noted_each now terms ds table))
  noted-table now ds terms table tells bare is all =
      noted-each now terms ds table (are-asked ds tells) is bare
      (All-weaker (IsNotedUnless steps a conn) (IsNotedUntil ds) (λ g noted none. noted (tells g.subject ∙ none)) (grants_of table) all)

  -- the table after a publish, be it a response or not, of which these deliveries have entered
  pub after-publish : (now : ℕ) (answer : Bool) (s : List Token) (ds : List Delivery) (terms : Option Terms) (table : Table) →
      ((t : List Token) → is_response conn t a ≡ (answer && same_subject s t)) → ((t : List Token) → is_request conn t a ≡ list_any (asks_on t) ds) → (terms ≡ None → table ≡ None) →
      now ≡ latest (steps ++ a ∷ []) → All (IsNoted steps conn) (grants_of table) →
      All (IsNoted (steps ++ a ∷ []) conn) (grants_of (cond answer (ended_in s terms (noted_each now terms ds (responded_in s table))) (noted_each now terms ds table)))
  after-publish now true s ds terms table answers requests bare is all =
      ended-table s terms (noted_each now terms ds (responded_in s table))
      (noted-table now ds terms (responded_in s table) requests (λ e. ap (responded_in s) (bare e)) is (answered-table s table answers all))
    where
      ended-table : (s : List Token) (terms : Option Terms) (t : Table) → All (IsNoted (steps ++ a ∷ []) conn) (grants_of t) → All (IsNoted (steps ++ a ∷ []) conn) (grants_of (ended_in s terms t))
      ended-table s terms None all = all
      ended-table s terms (Some gs) all = here (has_live s 0 terms gs)
        where
          here : (b : Bool) → All (IsNoted (steps ++ a ∷ []) conn) (cond b gs (without s gs))
          here true = all
          here false = All-filter (λ (g : Grant). not (is_for s g)) (IsNoted (steps ++ a ∷ []) conn) gs all
  after-publish now false s ds terms table answers requests bare is all =
      noted-table now ds terms table requests bare is (plain-table table answers all)

  -- and after any other event
  pub after-other : (table : Table) → ((t : List Token) → is_response conn t a ≡ false) → ((t : List Token) → is_request conn t a ≡ false) → All (IsNoted steps conn) (grants_of table) → All (IsNoted (steps ++ a ∷ []) conn) (grants_of table)
  after-other table answers requests all =
      All-weaker (IsNotedUnless steps a conn) (IsNoted (steps ++ a ∷ []) conn) (λ g noted. noted (requests g.subject)) (grants_of table) (plain-table table answers all)

-- a reload drops some
pub after-judged : (P : Grant → Type 0) (now : ℕ) (before terms : Option Terms) (table : Table) → All P (grants_of table) → All P (grants_of (judged now before terms table))
after-judged P now before None table all = All-nil P
after-judged P now before (Some terms) None all = All-nil P
after-judged P now before (Some terms) (Some gs) all = All-filter (is_live now (Some terms)) P (filter (is_live now before) gs) (All-filter (is_live now before) P gs all)
