-- What a line is read as, from what clap says of it.
use Rattle.std.proofs.Common.{refl, sym, ap, subst, Bool, true, false, not, List, codes, [], ◌∷◌, ◌≡◌, ◌==◌, ◌∙◌, ◌⊎◌, ℕ, inl, inr, Option, Some, None, Ok, Err, Result, ◌&&◌, rules}
use Rattle.std.specs.Prelude.{string_bytes, option_map, is_some, find, if◌then◌else◌}
use Rattle.clap.specs.Words.{App, HasKind, IsAmong, Kinds, Row, Shape, Text, HasMatchesOf, built, fault_of, first_of, is_simple, is_simple_and_free, kind_of, subcommand_of, subcommand_rows_of}
use Rattle.clap.specs.Simple.{entered, rows_at, label_of, argument_words, names_of}
use Rattle.clap.specs.Walk.{Held, Names, answers_to, finished, nothing_held, settled, stop_after, walk, walk_from}
use Rattle.clap.specs.Faults.{check_fault, defaults_fault, entered_fault, level_fault, settle_fault, walk_fault}
use Rattle.clap.specs.Facts.{explicit_source}
use Rattle.clap.specs.Takes.{is_given}
use Rattle.std.specs.List.{list_any}
use Rattle.clap.specs.Kinds.{or_else, check_kinds}
use Rattle.clap.specs.declared.error.Error.{Error}
use Rattle.clap.specs.declared.error.kind.ErrorKind.{ErrorKind}
use Rattle.clap.specs.declared.error.kind.ErrorKind.TheVariants.{DisplayHelp, DisplayVersion, InvalidSubcommand, MissingSubcommand, OutOfMemory, UnknownArgument}
use Rattle.clap.specs.declared.parser.matches.ArgMatches.{ArgMatches}
use Rattle.clap.proofs.OnLiterals.{clap_on_literals}
use Rattle.command_line.specs.declared.options.LogChoice.{LogChoice}
use Rattle.command_line.specs.declared.options.ServeOptions.{ServeOptions}
use Rattle.command_line.specs.declared.words.Invocation.{Invocation}
use Rattle.command_line.specs.declared.options.LogChoice.TheVariants.{Denials}
use Rattle.command_line.specs.declared.words.Invocation.TheVariants as invocation
use Rattle.command_line.specs.declared.words.Task.{Task}
use Rattle.command_line.specs.declared.words.Task.TheVariants.{Play, Check, Strict, Sets, Explain, BadKind, BadLog, BadKeepalive, Help, Version}
use Rattle.command_line.specs.declared.words.WordsFault.{WordsFault}
use Rattle.command_line.specs.declared.words.WordsFault.TheVariants.{WrongLine, NoMemory}
use Rattle.std.specs.Str.{bytes_eq}
use Rattle.std.specs.Str.Parse.{digits_value, without_leading_plus}
use Rattle.clap.specs.Lexer.{strip_byte}
use Rattle.clap.specs.Words.{IsUnsignedIn}
use Rattle.clap.specs.declared.builder.value_parser.Reading.TheVariants.{AsWritten}
use Rattle.clap.specs.declared.parser.matches.ValueSource.TheVariants.{CommandLine, DefaultValue}
use Rattle.command_line.specs.Files.{checked_file}
use Rattle.command_line.specs.Options.{AreDefaults, IsOptions, IsNumberIn, default_listen, most_connections, most_history}
use Rattle.command_line.specs.Question.{Word}
use Rattle.command_line.specs.Words.{checking, natsd_app, kinds_of, found_in, is_mistake, names_task, on_policy, IsCheckIf, IsFound, IsInvokedBy, IsReading, IsRefusal, IsServeOrMemory, IsServing, IsTaskOrMemory, IsUnknown, IsWrongOrMemory}

simple_and_free : is_simple_and_free natsd_app ≡ true
unfolding clap_on_literals
simple_and_free = refl

simple : is_simple natsd_app ≡ true
unfolding clap_on_literals
simple = refl

-- ---- where nothing is wrong, a task is named

-- of two lists of kinds in turn, the second is empty where both are
second : (first next : Kinds) → or_else first next ≡ [] → next ≡ []
second [] next e = e
second (k ∷ ks) next e = absurd (cc)

-- where a subcommand is wanted, and none is missing, there is one
wanted : (has help required argument : Bool) → required ≡ true → check_kinds help (not has && required) argument ≡ [] → has ≡ true
wanted true help required argument r e = refl
wanted false true required argument r e = absurd (cc)
wanted false false true argument r e = absurd (cc)
wanted false false false argument r e = absurd (cc)

has_one : (s : Shape) (names : Names) (h : Held) (words : List Text) (has : Bool) (below : Kinds) → s.subcommand_required ≡ true → level_fault s names h words has below ≡ [] → has ≡ true
has_one s names h words has below r e =
    let end = (walk s.rules names h words).held in
    let last : check_fault s (finished s.rules end) has ≡ [] =
    second (defaults_fault (settled s.rules end).rows s.rules) _
    (second (settle_fault s.rules s.args_override_self end) _ (second below _ (second (walk_fault s names (walk_from h) words) _ e))) in
    wanted has
    (not has && (s.arg_required_else_help && not (list_any (λ r. explicit_source r.source) (finished s.rules end))))
    s.subcommand_required
    (not (s.subcommand_negates_reqs && has) && list_any (λ a. a.required && not (is_given a.id (finished s.rules end))) s.rules)
    r last

-- one of five subcommands was found
abbrev name_of : Option (Text × List Row) → Option Text
name_of found = option_map (λ (p : Text × List Row). p.0) found

abbrev IsOneOf : Text → Text → Text → Text → Text → Option (Text × List Row) → Type 0
IsOneOf v w x y z found = (name_of found ≡ Some v) ⊎ (name_of found ≡ Some w) ⊎ (name_of found ≡ Some x) ⊎ (name_of found ≡ Some y) ⊎ (name_of found ≡ Some z)

-- the subcommand that was entered, by the tests of the five
abbrev first_that : Bool → Bool → Bool → Bool → Bool → Shape → Shape → Shape → Shape → Shape → Option Shape
first_that at_first at_next at_third at_fourth at_last s t u v w =
    if at_first then Some s else if at_next then Some t else if at_third then Some u else if at_fourth then Some v else if at_last then Some w else None

by_tests : (at_first at_next at_third at_fourth at_last : Bool) (s t u v w : Shape) (words : List Text) →
    is_some (option_map (λ (x : Shape). rows_at x words) (first_that at_first at_next at_third at_fourth at_last s t u v w)) ≡ true →
    IsOneOf s.name t.name u.name v.name w.name (option_map (λ (x : Shape). rows_at x words) (first_that at_first at_next at_third at_fourth at_last s t u v w))
by_tests true at_next at_third at_fourth at_last s t u v w words e = inl refl
by_tests false true at_third at_fourth at_last s t u v w words e = inr (inl refl)
by_tests false false true at_fourth at_last s t u v w words e = inr (inr (inl refl))
by_tests false false false true at_last s t u v w words e = inr (inr (inr (inl refl)))
by_tests false false false false true s t u v w words e = inr (inr (inr (inr refl)))
by_tests false false false false false s t u v w words e = absurd (cc)

by_stop : (a : App) (s t u v w : Shape) (stop : Option (Text × List Text)) → a.subs ≡ s ∷ t ∷ u ∷ v ∷ w ∷ [] → is_some (entered a stop) ≡ true →
    IsOneOf s.name t.name u.name v.name w.name (entered a stop)
by_stop a s t u v w None five e = absurd (cc)
by_stop a s t u v w (Some p) five e =
    let P : List Shape → Type 0 = λ subs.
    is_some (option_map (λ (x : Shape). rows_at x p.1) (find (λ x. answers_to p.0 (label_of x)) subs)) ≡ true →
    IsOneOf s.name t.name u.name v.name w.name (option_map (λ (x : Shape). rows_at x p.1) (find (λ x. answers_to p.0 (label_of x)) subs)) in
    let here : P (s ∷ t ∷ u ∷ v ∷ w ∷ []) =
    by_tests (answers_to p.0 (label_of s)) (answers_to p.0 (label_of t)) (answers_to p.0 (label_of u)) (answers_to p.0 (label_of v)) (answers_to p.0 (label_of w)) s t u v w p.1 in
    subst P (sym five) here e

abbrev whole : App
whole = built natsd_app

abbrev stop_of : List Text → Option (Text × List Text)
stop_of words = stop_after whole.top.rules (names_of whole) (argument_words natsd_app words)

named : (words : List Text) → kinds_of words ≡ [] → IsOneOf (codes "play") (codes "check") (codes "explain") (codes "compare") (codes "serve") (found_in words)
named words none =
    by_stop whole _ _ _ _ _ (stop_of words) refl
    (has_one whole.top (names_of whole) nothing_held (argument_words natsd_app words) (is_some (entered whole (stop_of words))) (entered_fault whole (stop_of words)) refl none)

-- ---- what clap's answers come to

plays : (name : Text) → (kinds_of (name ∷ codes "play" ∷ []) ≡ []) × (found_in (name ∷ codes "play" ∷ []) ≡ Some (codes "play", []))
unfolding clap_on_literals
plays name = (refl, refl)

-- what the options are, where none is given
abbrev default_row : Text → Text → Row
default_row id value = record { id = id; values = value ∷ []; count = None; source = Some DefaultValue; reading = AsWritten }

-- `check` has one that is not given, or is
checks : (name : Text) → (kinds_of (name ∷ codes "check" ∷ []) ≡ []) × (found_in (name ∷ codes "check" ∷ []) ≡ Some (codes "check", default_row (codes "sets") (codes "false") ∷ default_row (codes "strict") (codes "false") ∷ []))
unfolding clap_on_literals
checks name = (refl, refl)

abbrev given_row : Text → Text → Row
given_row id value = record { id = id; values = value ∷ []; count = None; source = Some CommandLine; reading = AsWritten }

asks_sets : (name : Text) → (kinds_of (name ∷ codes "check" ∷ codes "--sets" ∷ []) ≡ []) × (found_in (name ∷ codes "check" ∷ codes "--sets" ∷ []) ≡ Some (codes "check", given_row (codes "sets") (codes "true") ∷ default_row (codes "strict") (codes "false") ∷ []))
unfolding clap_on_literals
asks_sets name = (refl, refl)

abbrev default_rows : List Row
default_rows = default_row (codes "listen") default_listen ∷ default_row (codes "workers") (codes "2") ∷ default_row (codes "outbox") (codes "1024") ∷ default_row (codes "history") (codes "1000000") ∷ default_row (codes "history-bytes") (codes "268435456") ∷ default_row (codes "connections") (codes "8192") ∷ default_row (codes "keepalive") (codes "30") ∷ default_row (codes "tell-removed") (codes "false") ∷ default_row (codes "log") (codes "denials") ∷ []

serves : (name : Text) → (kinds_of (name ∷ codes "serve" ∷ []) ≡ []) × (found_in (name ∷ codes "serve" ∷ []) ≡ Some (codes "serve", default_rows))
unfolding clap_on_literals
serves name = (refl, refl)

two : IsUnsignedIn 1 64 (codes "2")
two = search rules

thousand : IsUnsignedIn 1 65536 (codes "1024")
thousand = search rules

million : IsUnsignedIn 2 most_history (codes "1000000")
million = search rules

megabytes : IsUnsignedIn 1048576 most_history (codes "268435456")
megabytes = search rules

eight_thousand : IsUnsignedIn 1 most_connections (codes "8192")
eight_thousand = search rules

thirty : IsUnsignedIn 1 32767 (codes "30")
thirty = search rules

some_same : (x y : Text) → Some x ≡ Some y → x ≡ y
some_same x y e = cc

-- what is asked for, by what was found
is_named : (name wanted : Text) → Some name ≡ Some wanted → names_task wanted ≡ true → names_task name ≡ true
is_named name wanted e h = ap names_task (some_same name wanted e) ∙ h

names_one : (found : Text × List Row) → IsOneOf (codes "play") (codes "check") (codes "explain") (codes "compare") (codes "serve") (Some found) → names_task found.0 ≡ true
names_one found (inl e) = is_named found.0 (codes "play") e refl
names_one found (inr (inl e)) = is_named found.0 (codes "check") e refl
names_one found (inr (inr (inl e))) = is_named found.0 (codes "explain") e refl
names_one found (inr (inr (inr (inl e)))) = is_named found.0 (codes "compare") e refl
names_one found (inr (inr (inr (inr e)))) = is_named found.0 (codes "serve") e refl

is_found : (found : Option (Text × List Row)) (a : Invocation) → IsOneOf (codes "play") (codes "check") (codes "explain") (codes "compare") (codes "serve") found → IsInvokedBy found a → IsFound found a
is_found None a (inl e) h = absurd (cc)
is_found None a (inr (inl e)) h = absurd (cc)
is_found None a (inr (inr (inl e))) h = absurd (cc)
is_found None a (inr (inr (inr (inl e)))) h = absurd (cc)
is_found None a (inr (inr (inr (inr e)))) h = absurd (cc)
is_found (Some found) a one h = (names_one found one, h)

-- where the command is natsd's, and clap gives matches
pub right : (a : App) (words : List Text) (m : ArgMatches) (got : Invocation) → a ≡ natsd_app → (is_simple_and_free a ≡ true → fault_of a words ≡ []) → HasMatchesOf a words m →
    IsInvokedBy (subcommand_rows_of m) got → IsReading (kinds_of words) (found_in words) (Ok got)
right a words m got e h found t =
    let none : kinds_of words ≡ [] = sym (ap (λ (x : App). fault_of x words) e) ∙ h (ap is_simple_and_free e ∙ simple_and_free) in
    let rows : subcommand_rows_of m ≡ subcommand_of natsd_app words = (found (ap is_simple e ∙ simple)).1 ∙ ap (λ (x : App). subcommand_of x words) e in
    inl (none, is_found (found_in words) got (named words none) (subst (λ (f : Option (Text × List Row)). IsInvokedBy f got) rows t))

among : (k asked : ErrorKind) (kinds : Kinds) → (OutOfMemory ≡ asked → ⊥) → (k ≡ OutOfMemory) ⊎ IsAmong k kinds → IsAmong asked (k ∷ []) → IsAmong asked kinds
among k asked kinds other (inl e) (inl same) = absurd (other (sym (same ∙ e)))
among k asked kinds other (inr m) (inl same) = subst (λ x. IsAmong x kinds) (sym same) m
among k asked kinds other h (inr bad) = absurd bad

no_mistake : (asked : ErrorKind) → is_mistake asked ≡ true → OutOfMemory ≡ asked → ⊥
no_mistake asked mistake e = let bad : is_mistake OutOfMemory ≡ true = ap is_mistake e ∙ mistake in absurd (cc)

by_kind : (k : ErrorKind) (kinds : Kinds) (found : Option (Text × List Row)) (r : Result Invocation WordsFault) → (k ≡ OutOfMemory) ⊎ IsAmong k kinds → IsRefusal (k ∷ []) r → IsReading kinds found r
by_kind k kinds found (Ok (invocation.Serve options)) h p = absurd p
by_kind k kinds found (Ok (invocation.OnFile task file)) h p = absurd p
by_kind k kinds found (Ok (invocation.Split options)) h p = absurd p
by_kind k kinds found (Ok (invocation.Compare options)) h p = absurd p
by_kind k kinds found (Ok (invocation.Task Play)) h p = absurd p
by_kind k kinds found (Ok (invocation.Task Check)) h p = absurd p
by_kind k kinds found (Ok (invocation.Task Strict)) h p = absurd p
by_kind k kinds found (Ok (invocation.Task Sets)) h p = absurd p
by_kind k kinds found (Ok (invocation.Task (Explain question))) h p = absurd p
by_kind k kinds found (Ok (invocation.Task BadKind)) h p = absurd p
by_kind k kinds found (Ok (invocation.Task BadLog)) h p = absurd p
by_kind k kinds found (Ok (invocation.Task BadKeepalive)) h p = absurd p
by_kind k kinds found (Ok (invocation.Task (Help text))) h p = inr (among k DisplayHelp kinds (λ e. absurd (cc)) h p)
by_kind k kinds found (Ok (invocation.Task (Version text))) h p = inr (among k DisplayVersion kinds (λ e. absurd (cc)) h p)
by_kind k kinds found (Err (WrongLine text)) h p = (p.0, among k p.0 kinds (no_mistake p.0 p.2) h p.1, p.2)
by_kind k kinds found (Err NoMemory) h p = tt

-- and where it gives none
pub wrong : (a : App) (words : List Text) (error : Error) (r : Result Invocation WordsFault) → a ≡ natsd_app → (is_simple_and_free a ≡ true → HasKind (fault_of a words) error) →
    IsRefusal (kind_of error ∷ []) r → IsReading (kinds_of words) (found_in words) r
wrong a words error r e h p =
    by_kind (kind_of error) (kinds_of words) (found_in words) r (subst (λ (x : App). HasKind (fault_of x words) error) e (h (ap is_simple_and_free e ∙ simple_and_free))) p

-- ---- the words of each task

-- a refusal has a kind: a request, or a mistake
refused_by : (kinds : Kinds) (a : Invocation) → (IsAmong DisplayHelp kinds → ⊥) → (IsAmong DisplayVersion kinds → ⊥) → IsRefusal kinds (Ok a) → ⊥
refused_by kinds (invocation.Serve options) help version h = absurd h
refused_by kinds (invocation.OnFile task file) help version h = absurd h
refused_by kinds (invocation.Split options) help version h = absurd h
refused_by kinds (invocation.Compare options) help version h = absurd h
refused_by kinds (invocation.Task Play) help version h = absurd h
refused_by kinds (invocation.Task Check) help version h = absurd h
refused_by kinds (invocation.Task Strict) help version h = absurd h
refused_by kinds (invocation.Task Sets) help version h = absurd h
refused_by kinds (invocation.Task (Explain question)) help version h = absurd h
refused_by kinds (invocation.Task BadKind) help version h = absurd h
refused_by kinds (invocation.Task BadLog) help version h = absurd h
refused_by kinds (invocation.Task BadKeepalive) help version h = absurd h
refused_by kinds (invocation.Task (Help text)) help version h = help h
refused_by kinds (invocation.Task (Version text)) help version h = version h

none_refused : (a : Invocation) → IsRefusal [] (Ok a) → ⊥
none_refused a h = refused_by [] a (λ bad. bad) (λ bad. bad) h

play_if : (rows : List Row) (r : Result Invocation WordsFault) → IsReading [] (Some (codes "play", rows)) r → IsTaskOrMemory Play r
play_if rows (Ok a) (inl h) = h.1.1
play_if rows (Ok a) (inr h) = absurd (none_refused a h)
play_if rows (Err (WrongLine text)) h = absurd h.1
play_if rows (Err NoMemory) h = tt

-- without a folder no parts are to be written
no_parts : (rows : List Row) (folder : Option Text) (a : Invocation) → folder ≡ None → IsCheckIf rows folder a → IsCheckIf rows None a
no_parts rows folder a e h = subst (λ (f : Option Text). IsCheckIf rows f a) e h

no_file : (task : Task) (a : Invocation) (file : Option Word) → a ≡ on_policy task file → option_map string_bytes file ≡ None → a ≡ invocation.Task task
no_file task a None e h = e
no_file task a (Some file) e h = absurd (cc)

check_if : (task : Task) (rows : List Row) (r : Result Invocation WordsFault) → checking rows ≡ task → checked_file rows ≡ None → first_of (codes "split") rows ≡ None → IsReading [] (Some (codes "check", rows)) r → IsTaskOrMemory task r
check_if task rows (Ok a) asked free no_folder (inl h) =
    let checked = no_parts rows _ a no_folder h.1.1 in
    no_file task a checked.0 (checked.1 ∙ ap (λ (t : Task). on_policy t checked.0) asked) (checked.2 ∙ free)
check_if task rows (Ok a) asked free no_folder (inr h) = absurd (none_refused a h)
check_if task rows (Err (WrongLine text)) asked free no_folder h = absurd h.1
check_if task rows (Err NoMemory) asked free no_folder h = tt

-- each number is the one of its default's text
number_is : (least most n m : ℕ) (t : Text) → IsNumberIn least most (Some t) n → IsUnsignedIn least most t → digits_value 10 (without_leading_plus t) ≡ m → n ≡ m
number_is least most n m t h within e = h.read t refl within ∙ e

some_same_choice : (x y : LogChoice) → Some x ≡ Some y → y ≡ x
some_same_choice x y e = cc

defaults : (o : ServeOptions) → IsOptions default_rows o → AreDefaults o
defaults o h = record {
  policy = h.policy;
  listen = h.listen;
  workers = number_is 1 64 o.workers 2 (codes "2") h.workers two refl;
  outbox = number_is 1 65536 o.outbox 1024 (codes "1024") h.outbox thousand refl;
  history = number_is 2 most_history o.history 1000000 (codes "1000000") h.history million refl;
  history_bytes = number_is 1048576 most_history o.history_bytes 268435456 (codes "268435456") h.history_bytes megabytes refl;
  connections = number_is 1 most_connections o.connections 8192 (codes "8192") h.connections eight_thousand refl;
  keepalive = h.keepalive.1;
  tells_removed = h.tells_removed;
  log = some_same_choice _ _ h.log;
  stats = h.stats;
  stats_file = h.stats_file;
}

is_serving : (a : Invocation) → IsServing default_rows a → IsServeOrMemory AreDefaults (Ok a)
is_serving (invocation.Serve options) h = defaults options h
is_serving (invocation.Task task) (inl h) = let named : Some Denials ≡ None = h.1 in absurd (cc)
is_serving (invocation.Task task) (inr h) = absurd (h.1 thirty)
is_serving (invocation.OnFile task file) h = h
is_serving (invocation.Split options) h = h
is_serving (invocation.Compare options) h = h

serve_if : (r : Result Invocation WordsFault) → IsReading [] (Some (codes "serve", default_rows)) r → IsServeOrMemory AreDefaults r
serve_if (Ok a) (inl h) = is_serving a h.1.1
serve_if (Ok a) (inr h) = absurd (none_refused a h)
serve_if (Err (WrongLine text)) h = absurd h.1
serve_if (Err NoMemory) h = tt

-- what is read of words, by what clap says of them
read_as : (words same : List Text) (kinds : Kinds) (found : Option (Text × List Row)) (r : Result Invocation WordsFault) → words ≡ same → kinds_of same ≡ kinds → found_in same ≡ found →
    IsReading (kinds_of words) (found_in words) r → IsReading kinds found r
read_as words same kinds found r e k n p =
    let P : List Text → Type 0 = λ ws. IsReading (kinds_of ws) (found_in ws) r in
    let there : IsReading (kinds_of same) (found_in same) r = subst P e p in
    let Q : Kinds → Type 0 = λ x. IsReading x (found_in same) r in
    let R : Option (Text × List Row) → Type 0 = λ x. IsReading kinds x r in
    subst R n (subst Q k there)

-- the words of `natsd play`
pub play_is_right : (words : List Text) (name : Text) (r : Result Invocation WordsFault) → words ≡ name ∷ codes "play" ∷ [] → IsReading (kinds_of words) (found_in words) r → IsTaskOrMemory Play r
play_is_right words name r e p = play_if [] r (read_as words _ _ _ r e (plays name).0 (plays name).1 p)

-- the words of `natsd check`
pub check_is_right : (words : List Text) (name : Text) (r : Result Invocation WordsFault) → words ≡ name ∷ codes "check" ∷ [] → IsReading (kinds_of words) (found_in words) r → IsTaskOrMemory Check r
check_is_right words name r e p = check_if Check (default_row (codes "sets") (codes "false") ∷ default_row (codes "strict") (codes "false") ∷ []) r refl refl refl (read_as words _ _ _ r e (checks name).0 (checks name).1 p)

-- the words of `natsd check --sets`
pub sets_is_right : (words : List Text) (name : Text) (r : Result Invocation WordsFault) → words ≡ name ∷ codes "check" ∷ codes "--sets" ∷ [] → IsReading (kinds_of words) (found_in words) r → IsTaskOrMemory Sets r
sets_is_right words name r e p = check_if Sets (given_row (codes "sets") (codes "true") ∷ default_row (codes "strict") (codes "false") ∷ []) r refl refl refl (read_as words _ _ _ r e (asks_sets name).0 (asks_sets name).1 p)

-- the words of `natsd serve`
pub serve_is_right : (words : List Text) (name : Text) (r : Result Invocation WordsFault) → words ≡ name ∷ codes "serve" ∷ [] → IsReading (kinds_of words) (found_in words) r → IsServeOrMemory AreDefaults r
serve_is_right words name r e p = serve_if r (read_as words _ _ _ r e (serves name).0 (serves name).1 p)

-- ---- words that name no task

abbrev stray : Kinds
stray = UnknownArgument ∷ InvalidSubcommand ∷ []

other_word : (name : Text) (c : ℕ) (cs : Text) → (c == 45) ≡ false → bytes_eq (codes "play") (c ∷ cs) ≡ false → bytes_eq (codes "check") (c ∷ cs) ≡ false → bytes_eq (codes "explain") (c ∷ cs) ≡ false → bytes_eq (codes "compare") (c ∷ cs) ≡ false →
    bytes_eq (codes "serve") (c ∷ cs) ≡ false →
    kinds_of (name ∷ (c ∷ cs) ∷ []) ≡ stray
unfolding clap_on_literals
other_word name c cs hyphen play check explain compare serve = rw (play, check, explain, compare, serve, hyphen) (rw hyphen refl)

no_hyphen : (c : ℕ) (cs : Text) → strip_byte 45 (c ∷ cs) ≡ None → (c == 45) ≡ false
no_hyphen c cs e = by_test (c == 45) e
  where
    by_test : (b : Bool) → (if b then Some cs else None) ≡ None → b ≡ false
    by_test true e = absurd (cc)
    by_test false e = refl

others : (name word : Text) → IsUnknown word → kinds_of (name ∷ word ∷ []) ≡ stray
unfolding clap_on_literals
others name [] h = refl
others name (c ∷ cs) h = other_word name c cs (no_hyphen c cs h.0) h.1 h.2 h.3 h.4 h.5

nothing : (name : Text) → kinds_of (name ∷ []) ≡ MissingSubcommand ∷ []
unfolding clap_on_literals
nothing name = refl

-- a request is none of these mistakes
wrong_if : (kinds : Kinds) (found : Option (Text × List Row)) (r : Result Invocation WordsFault) → (kinds ≡ [] → ⊥) → (IsAmong DisplayHelp kinds → ⊥) → (IsAmong DisplayVersion kinds → ⊥) →
    IsReading kinds found r → IsWrongOrMemory r
wrong_if kinds found (Ok a) some help version (inl h) = absurd (some h.0)
wrong_if kinds found (Ok a) some help version (inr h) = absurd (refused_by kinds a help version h)
wrong_if kinds found (Err (WrongLine text)) some help version h = tt
wrong_if kinds found (Err NoMemory) some help version h = tt

is_stray : (asked : ErrorKind) → is_mistake asked ≡ false → IsAmong asked stray → ⊥
is_stray asked request (inl e) = let bad : is_mistake UnknownArgument ≡ false = ap is_mistake (sym e) ∙ request in absurd (cc)
is_stray asked request (inr (inl e)) = let bad : is_mistake InvalidSubcommand ≡ false = ap is_mistake (sym e) ∙ request in absurd (cc)
is_stray asked request (inr (inr bad)) = absurd bad

is_missing : (asked : ErrorKind) → is_mistake asked ≡ false → IsAmong asked (MissingSubcommand ∷ []) → ⊥
is_missing asked request (inl e) = let bad : is_mistake MissingSubcommand ≡ false = ap is_mistake (sym e) ∙ request in absurd (cc)
is_missing asked request (inr bad) = absurd bad

-- the words of `natsd WORD`, where WORD is no task
pub unknown_is_wrong : (words : List Text) (name word : Text) (r : Result Invocation WordsFault) → words ≡ name ∷ word ∷ [] → IsUnknown word → IsReading (kinds_of words) (found_in words) r → IsWrongOrMemory r
unknown_is_wrong words name word r e unknown p =
    wrong_if stray _ r (λ none. absurd (cc)) (is_stray DisplayHelp refl) (is_stray DisplayVersion refl) (read_as words _ _ _ r e (others name word unknown) refl p)

-- the words of `natsd` alone
pub none_is_wrong : (words : List Text) (name : Text) (r : Result Invocation WordsFault) → words ≡ name ∷ [] → IsReading (kinds_of words) (found_in words) r → IsWrongOrMemory r
none_is_wrong words name r e p =
    wrong_if (MissingSubcommand ∷ []) (found_in (name ∷ [])) r (λ none. absurd (cc)) (is_missing DisplayHelp refl) (is_missing DisplayVersion refl) (read_as words _ _ _ r e (nothing name) refl p)
