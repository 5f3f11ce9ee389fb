-- What a control line says, in the words of the grammar.
use Rattle.std.proofs.Common.{◌≡◌, ℕ, ◌+◌, ◌-◌, ◌^◌, ◌<◌, ◌≤◌, Bool, true, false, not, cond, ltb, List, [], ◌∷◌, ◌++◌, length, Option, Some, None, Ok, Err, IsTrue, refl, sym, ap, ◌∙◌, subst, arith, ⊎_elim}
use Rattle.std.specs.Str.Parse.{digits_value}
use Rattle.std.proofs.lemmas.Bool.{cases_eq, ltb-true, ltb-false, lt-ltb, le-ltb, cond-true, cond-false}
use Rattle.wire_read.specs.declared.fault.WireFault.TheVariants.{UnknownOperation, ParserError, ControlLine, Payload}
use Rattle.wire_read.specs.declared.frame.Frame.TheVariants as frame
use Rattle.wire_read.specs.declared.lines.operation.Operation.{Operation}
use Rattle.wire_read.specs.declared.lines.operation.Operation.TheVariants.{Connect, Pub, Hpub, Sub, Unsub, Ping, Pong}
use Rattle.wire_read.specs.Command.{Announced}
use Rattle.wire_read.specs.Command.{Command}
use Rattle.wire_read.specs.Command.{Alone, Publish, Refused}
use Rattle.wire_read.specs.lines.Field.{fields, counted, first_field, after_first_field}
use Rattle.wire_read.specs.lines.Operation.{operation}
use Rattle.base.specs.Number.{is_number}
use Rattle.wire_read.specs.Size.{size, sizes, count, head_within}
use Rattle.wire_read.specs.Command.{command, said_by, announced, sized, headed, publication, headed_publication, subscription, ended_after, unsubscription, IsWithin}
use Rattle.wire_read.specs.Grammar.{Has, optional, Writes, Announces, IsMalformed, IsOversized, Says}
use Rattle.wire_read.proofs.lines.FieldLemmas.{fields_none, fields_some}

-- no operation has an empty name
nameless : operation [] ≡ None
unfolding operation
nameless = refl

named : (name : List ℕ) (op : Operation) → operation name ≡ Some op → length name ≡ 0 → ⊥
named [] op is none = let e : None ≡ Some op = sym nameless ∙ is in cc
named (b ∷ bs) op is none = omega arith

-- the fields of a line with an operation, from its first field and from the line behind it
has_from : (line : List ℕ) (op : Operation) → operation (first_field line) ≡ Some op → Has line op (fields (after_first_field line))
has_from line op is = (first_field line, is, fields_some line (named (first_field line) op is))

has_parts : (line : List ℕ) (op : Operation) (others : List (List ℕ)) → Has line op others → (operation (first_field line) ≡ Some op) × (fields (after_first_field line) ≡ others)
has_parts line op others has =
    ⊎_elim
    (λ (none : length (first_field line) ≡ 0).
    let e : [] ≡ has.0 ∷ others = sym (fields_none line none) ∙ has.2 in cc)
    (λ (some : length (first_field line) ≡ 0 → ⊥).
    let e : first_field line ∷ fields (after_first_field line) ≡ has.0 ∷ others = sym (fields_some line some) ∙ has.2 in
    let first : first_field line ≡ has.0 = cc in
    let rest : fields (after_first_field line) ≡ others = cc in
    (ap operation first ∙ has.1, rest))
    (cases_eq (length (first_field line)) 0)

-- a field that may stand there is one at most
optional_len : (field : Option (List ℕ)) (more : List (List ℕ)) → (length more ≤ length (optional field ++ more)) × (length (optional field ++ more) ≤ length more + 1)
optional_len None more = (omega arith, omega arith)
optional_len (Some field) more = (omega arith, omega arith)

-- fields that are too few or too many
sub_badly : (others : List (List ℕ)) → (length others ≡ 2 → ⊥) → (length others ≡ 3 → ⊥) → IsMalformed Sub others
sub_badly others two three s q i e = omega (arith, ap length e, optional_len q (i ∷ []))

pub_badly : (others : List (List ℕ)) → (length others ≡ 2 → ⊥) → (length others ≡ 3 → ⊥) → IsMalformed Pub others
pub_badly others two three s r n e = let no : ⊥ = omega (arith, ap length e, optional_len r (n ∷ [])) in absurd no

hpub_badly : (others : List (List ℕ)) → (length others ≡ 3 → ⊥) → (length others ≡ 4 → ⊥) → IsMalformed Hpub others
hpub_badly others three four s r h n e = let no : ⊥ = omega (arith, ap length e, optional_len r (h ∷ n ∷ [])) in absurd no

unsub_badly : (others : List (List ℕ)) → (length others ≡ 1 → ⊥) → (length others ≡ 2 → ⊥) → IsMalformed Unsub others
unsub_badly others one two = (
  λ s e. let no : ⊥ = omega (arith, ap length e) in no,
  λ s m e. let no : ⊥ = omega (arith, ap length e) in absurd no,
)

-- numbers that are none, or out of bounds
bad_size : (reply : Option (List ℕ)) (s n : List ℕ) → is_number n ≡ false → IsMalformed Pub (s ∷ (optional reply ++ (n ∷ [])))
bad_size None s n bad a None z e = let last : z ≡ n = cc in ap is_number last ∙ bad
bad_size None s n bad a (Some q) z e = cc
bad_size (Some r) s n bad a None z e = cc
bad_size (Some r) s n bad a (Some q) z e = let last : z ≡ n = cc in ap is_number last ∙ bad

abbrev IsAbove : List ℕ → List ℕ → Type 0
IsAbove head total = IsTrue (is_number head) → IsTrue (is_number total) → (digits_value 10 total ≤ 1048576) × (digits_value 10 total < digits_value 10 head)

same_above : (h n x y : List ℕ) → x ≡ h → y ≡ n → IsAbove h n → IsAbove x y
same_above h n x y first last above = rw (first, last) above

bad_sizes : (reply : Option (List ℕ)) (s h n : List ℕ) → IsAbove h n → IsMalformed Hpub (s ∷ (optional reply ++ (h ∷ n ∷ [])))
bad_sizes None s h n above a None x y e = let first : x ≡ h = cc in let last : y ≡ n = cc in same_above h n x y first last above
bad_sizes None s h n above a (Some q) x y e = cc
bad_sizes (Some r) s h n above a None x y e = cc
bad_sizes (Some r) s h n above a (Some q) x y e = let first : x ≡ h = cc in let last : y ≡ n = cc in same_above h n x y first last above

bad_count : (s n : List ℕ) → (IsTrue (is_number n) → 2 ^ 63 - 1 < digits_value 10 n) → IsMalformed Unsub (s ∷ n ∷ [])
bad_count s n above = (
  λ i e. cc,
  λ i m e number.
      let last : m ≡ n = cc in
      let up : 2 ^ 63 - 1 < digits_value 10 n = above (ap is_number (sym last) ∙ number) in
      rw last up,
)

-- what a subscription says
says_subscription : (line : List ℕ) (others : List (List ℕ)) → Has line Sub others → Says line (subscription (counted others))
says_subscription line [] has = (Sub, [], has, sub_badly [] (λ e. omega arith) (λ e. omega arith))
says_subscription line (a ∷ []) has = (Sub, a ∷ [], has, sub_badly (a ∷ []) (λ e. omega arith) (λ e. omega arith))
says_subscription line (a ∷ b ∷ []) has = has
says_subscription line (a ∷ b ∷ c ∷ []) has = has
says_subscription line (a ∷ b ∷ c ∷ d ∷ []) has =
    (Sub, a ∷ b ∷ c ∷ d ∷ [], has, sub_badly (a ∷ b ∷ c ∷ d ∷ []) (λ e. omega arith) (λ e. omega arith))
says_subscription line (a ∷ b ∷ c ∷ d ∷ f ∷ fs) has =
    (Sub, a ∷ b ∷ c ∷ d ∷ f ∷ fs, has, sub_badly (a ∷ b ∷ c ∷ d ∷ f ∷ fs) (λ e. omega arith) (λ e. omega arith))

-- what the end of a subscription says, by its count
says_ended : (line s n : List ℕ) (number big : Bool) → Has line Unsub (s ∷ n ∷ []) → is_number n ≡ number → ltb (2 ^ 63 - 1) (digits_value 10 n) ≡ big →
    Says line (ended_after s (cond (not number) None (cond big None (Some (digits_value 10 n)))))
says_ended line s n false big has is_n is_b =
    (Unsub, s ∷ n ∷ [], has, bad_count s n (λ number. let no : false ≡ true = sym is_n ∙ number in cc))
says_ended line s n true true has is_n is_b = (Unsub, s ∷ n ∷ [], has, bad_count s n (λ _. ltb-true (2 ^ 63 - 1) _ is_b))
says_ended line s n true false has is_n is_b = (n, has, (is_n, refl), ltb-false (2 ^ 63 - 1) _ is_b)

says_unsubscription : (line : List ℕ) (others : List (List ℕ)) → Has line Unsub others → Says line (unsubscription (counted others))
unfolding count
says_unsubscription line [] has = (Unsub, [], has, unsub_badly [] (λ e. omega arith) (λ e. omega arith))
says_unsubscription line (a ∷ []) has = has
says_unsubscription line (a ∷ n ∷ []) has = says_ended line a n (is_number n) (ltb (2 ^ 63 - 1) (digits_value 10 n)) has refl refl
says_unsubscription line (a ∷ b ∷ c ∷ []) has =
    (Unsub, a ∷ b ∷ c ∷ [], has, unsub_badly (a ∷ b ∷ c ∷ []) (λ e. omega arith) (λ e. omega arith))
says_unsubscription line (a ∷ b ∷ c ∷ d ∷ []) has =
    (Unsub, a ∷ b ∷ c ∷ d ∷ [], has, unsub_badly (a ∷ b ∷ c ∷ d ∷ []) (λ e. omega arith) (λ e. omega arith))
says_unsubscription line (a ∷ b ∷ c ∷ d ∷ f ∷ fs) has =
    (Unsub, a ∷ b ∷ c ∷ d ∷ f ∷ fs, has, unsub_badly (a ∷ b ∷ c ∷ d ∷ f ∷ fs) (λ e. omega arith) (λ e. omega arith))

-- what a publication says, by its size
says_sized : (line s n : List ℕ) (reply : Option (List ℕ)) (number big : Bool) → Has line Pub (s ∷ (optional reply ++ (n ∷ []))) → is_number n ≡ number → ltb 1048576 (digits_value 10 n) ≡ big →
    Says line (sized s reply (cond (not number) (Err ParserError) (cond big (Err Payload) (Ok (digits_value 10 n)))))
says_sized line s n reply false big has is_n is_b = (Pub, s ∷ (optional reply ++ (n ∷ [])), has, bad_size reply s n is_n)
says_sized line s n reply true true has is_n is_b =
    (Pub, s ∷ (optional reply ++ (n ∷ [])), has, (s, reply, n, refl, is_n, ltb-true 1048576 _ is_b))
says_sized line s n reply true false has is_n is_b = (n, has, (is_n, refl), ltb-false 1048576 _ is_b)

says_publication : (line : List ℕ) (others : List (List ℕ)) → Has line Pub others → Says line (publication (counted others))
unfolding size
says_publication line [] has = (Pub, [], has, pub_badly [] (λ e. omega arith) (λ e. omega arith))
says_publication line (a ∷ []) has = (Pub, a ∷ [], has, pub_badly (a ∷ []) (λ e. omega arith) (λ e. omega arith))
says_publication line (a ∷ n ∷ []) has = says_sized line a n None (is_number n) (ltb 1048576 (digits_value 10 n)) has refl refl
says_publication line (a ∷ r ∷ n ∷ []) has = says_sized line a n (Some r) (is_number n) (ltb 1048576 (digits_value 10 n)) has refl refl
says_publication line (a ∷ b ∷ c ∷ d ∷ []) has =
    (Pub, a ∷ b ∷ c ∷ d ∷ [], has, pub_badly (a ∷ b ∷ c ∷ d ∷ []) (λ e. omega arith) (λ e. omega arith))
says_publication line (a ∷ b ∷ c ∷ d ∷ f ∷ fs) has =
    (Pub, a ∷ b ∷ c ∷ d ∷ f ∷ fs, has, pub_badly (a ∷ b ∷ c ∷ d ∷ f ∷ fs) (λ e. omega arith) (λ e. omega arith))

-- what a publication with a header block says, by its sizes
says_over : (line s h n : List ℕ) (reply : Option (List ℕ)) (over : Bool) → Has line Hpub (s ∷ (optional reply ++ (h ∷ n ∷ []))) → IsTrue (is_number h) → IsTrue (is_number n) →
    digits_value 10 n ≤ 1048576 → ltb (digits_value 10 n) (digits_value 10 h) ≡ over → Says line (headed s reply (cond over (Err ParserError) (Ok (digits_value 10 h, digits_value 10 n))))
says_over line s h n reply true has is_h is_n few is_o =
    (Hpub, s ∷ (optional reply ++ (h ∷ n ∷ [])), has, bad_sizes reply s h n (λ _ _. (few, ltb-true _ _ is_o)))
says_over line s h n reply false has is_h is_n few is_o = (h, n, has, (is_h, refl), (is_n, refl), few, ltb-false _ _ is_o)

says_headed : (line s h n : List ℕ) (reply : Option (List ℕ)) (first second big : Bool) → Has line Hpub (s ∷ (optional reply ++ (h ∷ n ∷ []))) → is_number h ≡ first → is_number n ≡ second →
    ltb 1048576 (digits_value 10 n) ≡ big →
    Says line (headed s reply (cond (not first) (Err ParserError) (head_within (digits_value 10 h) (cond (not second) (Err ParserError) (cond big (Err Payload) (Ok (digits_value 10 n)))))))
says_headed line s h n reply false second big has is_h is_n is_b =
    (Hpub, s ∷ (optional reply ++ (h ∷ n ∷ [])), has, bad_sizes reply s h n (λ number _. let no : false ≡ true = sym is_h ∙ number in cc))
says_headed line s h n reply true false big has is_h is_n is_b =
    (Hpub, s ∷ (optional reply ++ (h ∷ n ∷ [])), has, bad_sizes reply s h n (λ _ number. let no : false ≡ true = sym is_n ∙ number in cc))
says_headed line s h n reply true true true has is_h is_n is_b =
    (Hpub, s ∷ (optional reply ++ (h ∷ n ∷ [])), has, (s, reply, h, n, refl, is_h, is_n, ltb-true 1048576 _ is_b))
says_headed line s h n reply true true false has is_h is_n is_b =
    says_over line s h n reply (ltb (digits_value 10 n) (digits_value 10 h)) has is_h is_n (ltb-false 1048576 _ is_b) refl

says_headed_publication : (line : List ℕ) (others : List (List ℕ)) → Has line Hpub others → Says line (headed_publication (counted others))
unfolding size sizes
says_headed_publication line [] has = (Hpub, [], has, hpub_badly [] (λ e. omega arith) (λ e. omega arith))
says_headed_publication line (a ∷ []) has = (Hpub, a ∷ [], has, hpub_badly (a ∷ []) (λ e. omega arith) (λ e. omega arith))
says_headed_publication line (a ∷ b ∷ []) has = (Hpub, a ∷ b ∷ [], has, hpub_badly (a ∷ b ∷ []) (λ e. omega arith) (λ e. omega arith))
says_headed_publication line (a ∷ h ∷ n ∷ []) has =
    says_headed line a h n None (is_number h) (is_number n) (ltb 1048576 (digits_value 10 n)) has refl refl refl
says_headed_publication line (a ∷ r ∷ h ∷ n ∷ []) has =
    says_headed line a h n (Some r) (is_number h) (is_number n) (ltb 1048576 (digits_value 10 n)) has refl refl refl
says_headed_publication line (a ∷ b ∷ c ∷ d ∷ f ∷ fs) has =
    (Hpub, a ∷ b ∷ c ∷ d ∷ f ∷ fs, has, hpub_badly (a ∷ b ∷ c ∷ d ∷ f ∷ fs) (λ e. omega arith) (λ e. omega arith))

says_by : (op : Option Operation) (line : List ℕ) → operation (first_field line) ≡ op → Says line (said_by op (after_first_field line))
says_by None line is = is
says_by (Some Connect) line is = (fields (after_first_field line), has_from line Connect is, refl)
says_by (Some Pub) line is = says_publication line (fields (after_first_field line)) (has_from line Pub is)
says_by (Some Hpub) line is = says_headed_publication line (fields (after_first_field line)) (has_from line Hpub is)
says_by (Some Sub) line is = says_subscription line (fields (after_first_field line)) (has_from line Sub is)
says_by (Some Unsub) line is = says_unsubscription line (fields (after_first_field line)) (has_from line Unsub is)
says_by (Some Ping) line is = (fields (after_first_field line), has_from line Ping is)
says_by (Some Pong) line is = (fields (after_first_field line), has_from line Pong is)

-- a line says its command
pub says_command : (line : List ℕ) → Says line (command line)
unfolding command
says_command line = says_by (operation (first_field line)) line refl

-- and no other
by_parts : (line : List ℕ) (op : Operation) (others : List (List ℕ)) → Has line op others → command line ≡ said_by (Some op) (after_first_field line)
unfolding command
by_parts line op others has = ap (λ o. said_by o (after_first_field line)) (has_parts line op others has).0

not_number : (n : List ℕ) → is_number n ≡ false → size n ≡ Err ParserError
unfolding size
not_number n is = cond-true _ _ _ (ap not is)

too_big : (n : List ℕ) → IsTrue (is_number n) → 1048576 < digits_value 10 n → size n ≡ Err Payload
unfolding size
too_big n number big = cond-false _ _ _ (ap not number) ∙ cond-true _ _ _ (lt-ltb 1048576 _ big)

small : (field : List ℕ) (n : ℕ) → Writes field n → n ≤ 1048576 → size field ≡ Ok n
unfolding size
small field n writes few =
    cond-false _ _ _ (ap not writes.0) ∙ cond-false _ _ _ (le-ltb 1048576 (digits_value 10 field) (omega (arith, writes.1))) ∙ ap Ok writes.1

sizes_by : (h n : List ℕ) → IsTrue (is_number h) → sizes h n ≡ head_within (digits_value 10 h) (size n)
unfolding sizes
sizes_by h n number = cond-false _ _ _ (ap not number)

sizes_none : (h n : List ℕ) → is_number h ≡ false → sizes h n ≡ Err ParserError
unfolding sizes
sizes_none h n is = cond-true _ _ _ (ap not is)

sizes_too_big : (h n : List ℕ) → IsTrue (is_number h) → IsTrue (is_number n) → 1048576 < digits_value 10 n → sizes h n ≡ Err Payload
sizes_too_big h n is_h is_n big = sizes_by h n is_h ∙ ap (head_within (digits_value 10 h)) (too_big n is_n big)

sizes_small : (h t : List ℕ) (k n : ℕ) → Writes h k → Writes t n → n ≤ 1048576 → k ≤ n → sizes h t ≡ Ok (k, n)
sizes_small h t k n is_h is_t few within =
    sizes_by h t is_h.0
    ∙ ap (head_within (digits_value 10 h)) (small t n is_t few)
    ∙ cond-false _ _ _ (le-ltb n (digits_value 10 h) (omega (arith, is_h.1)))
    ∙ ap (λ v. Ok (v, n)) is_h.1

sizes_over : (h n : List ℕ) (first second : Bool) → is_number h ≡ first → is_number n ≡ second → IsAbove h n → sizes h n ≡ Err ParserError
sizes_over h n false second is_h is_n above = sizes_none h n is_h
sizes_over h n true false is_h is_n above = sizes_by h n is_h ∙ ap (head_within (digits_value 10 h)) (not_number n is_n)
sizes_over h n true true is_h is_n above =
    let both : (digits_value 10 n ≤ 1048576) × (digits_value 10 n < digits_value 10 h) = above is_h is_n in
    sizes_by h n is_h
    ∙ ap (head_within (digits_value 10 h)) (small n (digits_value 10 n) (is_n, refl) both.0)
    ∙ cond-true _ _ _ (lt-ltb (digits_value 10 n) (digits_value 10 h) both.1)

count_over : (n : List ℕ) (number : Bool) → is_number n ≡ number → (IsTrue (is_number n) → 2 ^ 63 - 1 < digits_value 10 n) → count n ≡ None
unfolding count
count_over n false is above = cond-true _ _ _ (ap not is)
count_over n true is above = cond-false _ _ _ (ap not is) ∙ cond-true _ _ _ (lt-ltb (2 ^ 63 - 1) _ (above is))

count_small : (field : List ℕ) (n : ℕ) → Writes field n → n ≤ 2 ^ 63 - 1 → count field ≡ Some n
unfolding count
count_small field n writes few =
    cond-false _ _ _ (ap not writes.0) ∙ cond-false _ _ _ (le-ltb (2 ^ 63 - 1) (digits_value 10 field) (omega (arith, writes.1))) ∙ ap Some writes.1

-- what the fields of an operation say where they are not what it takes
no_subscription : (others : List (List ℕ)) → IsMalformed Sub others → subscription (counted others) ≡ Refused ParserError
no_subscription [] none = refl
no_subscription (a ∷ []) none = refl
no_subscription (a ∷ b ∷ []) none = absurd (none a None b refl)
no_subscription (a ∷ b ∷ c ∷ []) none = absurd (none a (Some b) c refl)
no_subscription (a ∷ b ∷ c ∷ d ∷ []) none = refl
no_subscription (a ∷ b ∷ c ∷ d ∷ f ∷ fs) none = refl

no_publication : (others : List (List ℕ)) → IsMalformed Pub others → publication (counted others) ≡ Refused ParserError
no_publication [] none = refl
no_publication (a ∷ []) none = refl
no_publication (a ∷ n ∷ []) none = ap (sized a None) (not_number n (none a None n refl))
no_publication (a ∷ r ∷ n ∷ []) none = ap (sized a (Some r)) (not_number n (none a (Some r) n refl))
no_publication (a ∷ b ∷ c ∷ d ∷ []) none = refl
no_publication (a ∷ b ∷ c ∷ d ∷ f ∷ fs) none = refl

no_headed : (others : List (List ℕ)) → IsMalformed Hpub others → headed_publication (counted others) ≡ Refused ParserError
no_headed [] none = refl
no_headed (a ∷ []) none = refl
no_headed (a ∷ b ∷ []) none = refl
no_headed (a ∷ h ∷ n ∷ []) none = ap (headed a None) (sizes_over h n (is_number h) (is_number n) refl refl (none a None h n refl))
no_headed (a ∷ r ∷ h ∷ n ∷ []) none = ap (headed a (Some r)) (sizes_over h n (is_number h) (is_number n) refl refl (none a (Some r) h n refl))
no_headed (a ∷ b ∷ c ∷ d ∷ f ∷ fs) none = refl

no_unsubscription : (others : List (List ℕ)) → IsMalformed Unsub others → unsubscription (counted others) ≡ Refused ParserError
no_unsubscription [] none = refl
no_unsubscription (a ∷ []) none = absurd (none.0 a refl)
no_unsubscription (a ∷ n ∷ []) none = ap (ended_after a) (count_over n (is_number n) refl (none.1 a n refl))
no_unsubscription (a ∷ b ∷ c ∷ []) none = refl
no_unsubscription (a ∷ b ∷ c ∷ d ∷ []) none = refl
no_unsubscription (a ∷ b ∷ c ∷ d ∷ f ∷ fs) none = refl

malformed : (op : Operation) (line : List ℕ) (others : List (List ℕ)) → Has line op others → IsMalformed op others → command line ≡ Refused ParserError
malformed Connect line others has bad = absurd bad
malformed Pub line others has bad = by_parts line Pub others has ∙ ap (λ fs. publication (counted fs)) (has_parts line Pub others has).1 ∙ no_publication others bad
malformed Hpub line others has bad = by_parts line Hpub others has ∙ ap (λ fs. headed_publication (counted fs)) (has_parts line Hpub others has).1 ∙ no_headed others bad
malformed Sub line others has bad = by_parts line Sub others has ∙ ap (λ fs. subscription (counted fs)) (has_parts line Sub others has).1 ∙ no_subscription others bad
malformed Unsub line others has bad = by_parts line Unsub others has ∙ ap (λ fs. unsubscription (counted fs)) (has_parts line Unsub others has).1 ∙ no_unsubscription others bad
malformed Ping line others has bad = absurd bad
malformed Pong line others has bad = absurd bad

-- what they say where they are
publication_by : (reply : Option (List ℕ)) (s n : List ℕ) → publication (counted (s ∷ (optional reply ++ (n ∷ [])))) ≡ sized s reply (size n)
publication_by None s n = refl
publication_by (Some r) s n = refl

headed_by : (reply : Option (List ℕ)) (s h n : List ℕ) → headed_publication (counted (s ∷ (optional reply ++ (h ∷ n ∷ [])))) ≡ headed s reply (sizes h n)
headed_by None s h n = refl
headed_by (Some r) s h n = refl

subscription_by : (queue : Option (List ℕ)) (s i : List ℕ) → subscription (counted (s ∷ (optional queue ++ (i ∷ [])))) ≡ Alone (frame.Sub s queue i)
subscription_by None s i = refl
subscription_by (Some q) s i = refl

says_pub : (line s n : List ℕ) (reply : Option (List ℕ)) → Has line Pub (s ∷ (optional reply ++ (n ∷ []))) → command line ≡ sized s reply (size n)
says_pub line s n reply has = by_parts line Pub _ has ∙ ap (λ fs. publication (counted fs)) (has_parts line Pub _ has).1 ∙ publication_by reply s n

says_hpub : (line s h n : List ℕ) (reply : Option (List ℕ)) → Has line Hpub (s ∷ (optional reply ++ (h ∷ n ∷ []))) → command line ≡ headed s reply (sizes h n)
says_hpub line s h n reply has = by_parts line Hpub _ has ∙ ap (λ fs. headed_publication (counted fs)) (has_parts line Hpub _ has).1 ∙ headed_by reply s h n

oversized : (op : Operation) (line : List ℕ) (others : List (List ℕ)) → Has line op others → IsOversized op others → command line ≡ Refused Payload
oversized Connect line others has big = absurd big
oversized Pub line others has big =
    let Q : List (List ℕ) → Type 0 = λ fs. Has line Pub fs in
    says_pub line big.0 big.2 big.1 (subst Q big.3 has) ∙ ap (sized big.0 big.1) (too_big big.2 big.4 big.5)
oversized Hpub line others has big =
    let Q : List (List ℕ) → Type 0 = λ fs. Has line Hpub fs in
    says_hpub line big.0 big.2 big.3 big.1 (subst Q big.4 has) ∙ ap (headed big.0 big.1) (sizes_too_big big.2 big.3 big.5 big.6 big.7)
oversized Sub line others has big = absurd big
oversized Unsub line others has big = absurd big
oversized Ping line others has big = absurd big
oversized Pong line others has big = absurd big

announces_says : (line s : List ℕ) (reply : Option (List ℕ)) (head : Option ℕ) (n : ℕ) → Announces line s reply head n → command line ≡ Publish (announced s reply head n)
announces_says line s reply None n is = says_pub line s is.0 reply is.1 ∙ ap (sized s reply) (small is.0 n is.2 is.3)
announces_says line s reply (Some k) n is = says_hpub line s is.0 is.1 reply is.2 ∙ ap (headed s reply) (sizes_small is.0 is.1 k n is.3 is.4 is.5 is.6)

unknown : (line : List ℕ) → operation (first_field line) ≡ None → command line ≡ Refused UnknownOperation
unfolding command
unknown line is = ap (λ o. said_by o (after_first_field line)) is

pub command_says : (line : List ℕ) (c : Command) → Says line c → command line ≡ c
command_says line (Alone (frame.Connect options)) says = by_parts line Connect says.0 says.1 ∙ ap (λ o. Alone (frame.Connect o)) (sym says.2)
command_says line (Alone (frame.Sub subject queue sid)) says =
    by_parts line Sub _ says ∙ ap (λ fs. subscription (counted fs)) (has_parts line Sub _ says).1 ∙ subscription_by queue subject sid
command_says line (Alone (frame.Unsub sid None)) says = by_parts line Unsub _ says ∙ ap (λ fs. unsubscription (counted fs)) (has_parts line Unsub _ says).1
command_says line (Alone (frame.Unsub sid (Some most))) says =
    by_parts line Unsub _ says.1 ∙ ap (λ fs. unsubscription (counted fs)) (has_parts line Unsub _ says.1).1 ∙ ap (ended_after sid) (count_small says.0 most says.2 says.3)
command_says line (Alone frame.Ping) says = by_parts line Ping says.0 says.1
command_says line (Alone frame.Pong) says = by_parts line Pong says.0 says.1
command_says line (Alone (frame.Pub t)) says = absurd says
command_says line (Alone (frame.Hpub t)) says = absurd says
command_says line (Alone (frame.Fault fault)) says = absurd says
command_says line (Publish a) says = announces_says line a.subject a.reply a.head a.total says
command_says line (Refused UnknownOperation) says = unknown line says
command_says line (Refused ParserError) says = malformed says.0 line says.1 says.2 says.3
command_says line (Refused Payload) says = oversized says.0 line says.1 says.2 says.3
command_says line (Refused ControlLine) says = absurd says

-- a header block is part of what follows its line
pub announces_within : (line s : List ℕ) (reply : Option (List ℕ)) (head : Option ℕ) (n : ℕ) → Announces line s reply head n → IsWithin head n
announces_within line s reply None n is = tt
announces_within line s reply (Some k) n is = is.6

pub command_within : (line : List ℕ) (a : Announced) → command line ≡ Publish a → IsWithin a.head a.total
command_within line a is =
    let Q : Command → Type 0 = λ c. Says line c in
    let says : Says line (Publish a) = subst Q is (says_command line) in
    announces_within line a.subject a.reply a.head a.total says

-- a message has no more bytes than a payload may have
announces_total : (line s : List ℕ) (reply : Option (List ℕ)) (head : Option ℕ) (n : ℕ) → Announces line s reply head n → n ≤ 1048576
announces_total line s reply None n is = is.3
announces_total line s reply (Some k) n is = is.5

pub command_total : (line : List ℕ) (a : Announced) → command line ≡ Publish a → a.total ≤ 1048576
command_total line a is =
    let Q : Command → Type 0 = λ c. Says line c in
    let says : Says line (Publish a) = subst Q is (says_command line) in
    announces_total line a.subject a.reply a.head a.total says
