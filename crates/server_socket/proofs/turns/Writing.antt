-- One write after another.
use Rattle.std.proofs.Common.{◌≡◌, ◌≢◌, ◌<◌, ◌≤◌, ◌+◌, ◌-◌, ◌++◌, ◌∙◌, ℕ, true, nat_lt, List, [], Option, Some, None, length, take, drop, ap, sym, refl, subst, append_assoc, arith, rules}
use Rattle.std.proofs.lemmas.Grind.{common_steps}
use Rattle.std.proofs.lemmas.List.{append-nil, take-append-drop, drop-append-le, drop-drop, drop_all, length-drop, length-take-le}
use Rattle.std.proofs.lemmas.Bool.{lt-ltb, ltb-true}
use Rattle.std.proofs.Math.Nat.{lt_of_not-le}
use Rattle.std.specs.Prelude.{is_some}
use Rattle.std.specs.Io.KnownBytes.{Appends, Consumes}
use Rattle.session_conn.specs.declared.output.Stall.{Stall}
use Rattle.server_socket.specs.turns.Turns.{Writes}

rest_whole : (i : ℕ) (bs : List ℕ) → take (length bs - i) (drop i bs) ≡ drop i bs
rest_whole i bs = search (rules, common_steps)

cut_further : (i n : ℕ) (bs : List ℕ) → drop i bs ≡ take n (drop i bs) ++ drop (i + n) bs
cut_further i n bs = sym (take-append-drop n (drop i bs)) ∙ ap (λ (r : List ℕ). take n (drop i bs) ++ r) (drop-drop n i bs)

appends_both : (old mid new : Option (List ℕ)) (xs ys : List ℕ) → Appends old mid xs → Appends mid new ys → Appends old new (xs ++ ys)
appends_both None mid new xs ys first next = tt
appends_both (Some zs) None new xs ys first next = absurd first
appends_both (Some zs) (Some us) None xs ys first next = absurd next
appends_both (Some zs) (Some us) (Some vs) xs ys first next = rw (next, first) (append_assoc zs xs ys)

appends_nothing : (old : Option (List ℕ)) → Appends old old []
appends_nothing None = tt
appends_nothing (Some xs) = sym (append-nil xs)

pub consumes_nothing : (old : Option (List ℕ)) → Consumes old old []
consumes_nothing None = tt
consumes_nothing (Some xs) = refl

-- before the first write
pub writes_nothing : (old : Option (List ℕ)) (all kept : List ℕ) → kept ≡ all → Writes old old all kept
writes_nothing old all kept same = record { front = []; appended = appends_nothing old; whole = sym same }

-- a write more
pub writes_more : (old mid new : Option (List ℕ)) (all bs : List ℕ) (i n : ℕ) → Writes old mid all (drop i bs) → Appends mid new (take n (take (length bs - i) (drop i bs))) → Writes old new all (drop (i + n) bs)
writes_more old mid new all bs i n w next = record {
  front = w.front ++ take n (drop i bs);
  appended = appends_both old mid new w.front (take n (drop i bs)) w.appended (subst (λ (xs : List ℕ). Appends mid new (take n xs)) (rest_whole i bs) next);
  whole = w.whole ∙ (ap (λ (xs : List ℕ). w.front ++ xs) (cut_further i n bs) ∙ sym (append_assoc w.front (take n (drop i bs)) (drop (i + n) bs)));
}

-- all is written once nothing is kept
pub all_written : (old new : Option (List ℕ)) (all kept : List ℕ) → Writes old new all kept → kept ≡ [] → Appends old new all
all_written old new all kept w none = subst (λ (xs : List ℕ). Appends old new xs) (sym (w.whole ∙ (ap (λ (xs : List ℕ). w.front ++ xs) none ∙ append-nil w.front))) w.appended

-- what isn't written yet is left
pub left_over : (i : ℕ) (bs : List ℕ) → i < length bs → drop i bs ≢ []
left_over i bs within none =
    let gone : length bs - i ≡ 0 = sym (length-drop i bs) ∙ ap length none in
    omega (arith, within, gone)

-- a text is kept behind what isn't written yet, or alone
pub kept_behind : (i : ℕ) (bs text : List ℕ) → i < length bs → drop i (bs ++ text) ≡ drop i bs ++ text
kept_behind i bs text within = drop-append-le i bs text (omega (arith, within))

pub kept_alone : (i : ℕ) (bs text : List ℕ) → length bs ≤ i → text ≡ drop i bs ++ text
kept_alone i bs text over = sym (ap (λ (xs : List ℕ). xs ++ text) (drop_all i bs over))

-- whether something is left
pub decides_left : (i : ℕ) (bs : List ℕ) → (nat_lt i (length bs) ≡ true → drop i bs ≢ []) × (drop i bs ≢ [] → nat_lt i (length bs) ≡ true)
decides_left i bs = (λ within. left_over i bs (ltb-true i (length bs) within), λ some. lt-ltb i (length bs) (lt_of_not-le (λ over. some (drop_all i bs over))))

-- bytes were read, or none
pub piece_some : (n : ℕ) (bs : List ℕ) → n ≤ length bs → n ≢ 0 → take n bs ≢ []
piece_some n bs within some none =
    let gone : n ≡ 0 = sym (length-take-le n bs within) ∙ ap length none in
    some gone

-- something has stopped the frames
pub stopped_some : (o : Option Stall) → o ≢ None → is_some o ≡ true
stopped_some None some = absurd (some refl)
stopped_some (Some s) some = refl
