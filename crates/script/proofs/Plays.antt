-- How a script goes on, line by line.
use Rattle.std.proofs.Common.{◌≡◌, ◌∙◌, ◌++◌, ◌∷◌, ◌+◌, ℕ, Result, Ok, Err, OnErr, Bool, true, false, List, [], Option, Some, None, length, take, drop, arith, ap, sym, refl, subst}
use Rattle.std.proofs.lemmas.List.{append_assoc, append-nil, take-append-drop}
use Rattle.std.proofs.lemmas.Grind.{common_steps}
use Rattle.std.specs.Io.KnownBytes.{Appends}
use Rattle.policy_doc.specs.Document.{builtin_doc}
use Rattle.script.specs.Server.{Serving, opening}
use Rattle.devices.specs.Device.{AppendsFront}
use Rattle.script.specs.declared.client.Client.{Client}
use Rattle.lines.specs.declared.script_text.lines.Line.{Line}
use Rattle.lines.specs.declared.script_text.lines.Progress.{Progress}
use Rattle.lines.specs.declared.script_text.lines.Progress.TheVariants.{Head}
use Rattle.lines.specs.script_text.Lines.{line_of, progress_after}
use Rattle.script.specs.Play.{Effect, Played, stops_or, line_and_drains, played, output_of, lines_of, IsEffect}

-- what was written, and what is left to come behind it, is all there is to come
pub record Plays (old now : Option (List ℕ)) (rest all : Played) : Type 0 where
  pub told : List ℕ
  pub written : Appends old now told
  pub text : told ++ rest.text ≡ all.text
  pub status : rest.status ≡ all.status

appends_nothing : (old : Option (List ℕ)) → Appends old old []
appends_nothing None = tt
appends_nothing (Some xs) = sym (append-nil xs)

appends_both : (old mid new : Option (List ℕ)) (a b : List ℕ) → Appends old mid a → Appends mid new b → Appends old new (a ++ b)
appends_both None mid new a b first next = tt
appends_both (Some xs) None new a b first next = absurd first
appends_both (Some xs) (Some ys) None a b first next = absurd next
appends_both (Some xs) (Some ys) (Some zs) a b first next = next ∙ ap (λ (l : List ℕ). l ++ b) first ∙ append_assoc xs a b

appends_same : (old new : Option (List ℕ)) (a b : List ℕ) → a ≡ b → Appends old new a → Appends old new b
appends_same old new a b e h = let P : List ℕ → Type 0 = λ l. Appends old new l in subst P e h

pub Appends-same : (old new : Option (List ℕ)) (a b : List ℕ) → a ≡ b → Appends old new a → Appends old new b
Appends-same old new a b e h = appends_same old new a b e h

pub AppendsFront-same : (old new : Option (List ℕ)) (a b : List ℕ) → a ≡ b → AppendsFront old new a → AppendsFront old new b
AppendsFront-same old new a b e h = let P : List ℕ → Type 0 = λ l. AppendsFront old new l in subst P e h

take_front : (a b : List ℕ) → take (length a) (a ++ b) ≡ a
take_front a b = grind (arith, common_steps)

-- a front of all
front : (old new : Option (List ℕ)) (a b all : List ℕ) → Appends old new a → a ++ b ≡ all → AppendsFront old new all
front old new a b all h e = (length a, appends_same old new a (take (length a) all) (sym (take_front a b) ∙ ap (λ (l : List ℕ). take (length a) l) e) h)

-- nothing is written yet
pub plays_start : (old : Option (List ℕ)) (all : Played) → Plays old old all all
plays_start old all = record { told = []; written = appends_nothing old; text = refl; status = refl }

-- nothing more is written
pub plays_refused : (old now : Option (List ℕ)) (rest all : Played) → Plays old now rest all → AppendsFront old now all.text
plays_refused old now rest all h = front old now h.told rest.text all.text h.written h.text

-- the text of the next effect is its own, and then the rest
after_effect : (a : Effect) (stops : Bool) (more : Serving → List Client → Played) → (tail : List ℕ) × ((stops_or a stops more).text ≡ a.text ++ tail)
after_effect a true more = ([], sym (append-nil a.text))
after_effect a false more = ((more a.server a.clients).text, refl)

-- a write that failed has written a front
pub plays_failed : (old now new : Option (List ℕ)) (out : List ℕ) (ks : List Client) (w : Serving) (a : Effect) (stops : Bool) (more : Serving → List Client → Played) (all : Played) →
    Plays old now (stops_or a a.stops more) all → IsEffect a [] out ks w stops → AppendsFront now new out → AppendsFront old new all.text
plays_failed old now new out ks w a stops more all h is wrote =
    let tail = after_effect a a.stops more in
    front old new (h.told ++ take wrote.0 out) (drop wrote.0 out ++ tail.0) all.text
    (appends_both old now new h.told (take wrote.0 out) h.written wrote.1)
    (append_assoc h.told (take wrote.0 out) (drop wrote.0 out ++ tail.0)
    ∙ ap (λ (l : List ℕ). h.told ++ l) (sym (append_assoc (take wrote.0 out) (drop wrote.0 out) tail.0) ∙ ap (λ (l : List ℕ). l ++ tail.0) (take-append-drop wrote.0 out ∙ is.text) ∙ sym tail.1)
    ∙ h.text)

-- a line was written, and the script goes on
pub plays_more : (old now new : Option (List ℕ)) (out : List ℕ) (ks : List Client) (w : Serving) (a : Effect) (stops : Bool) (more : Serving → List Client → Played) (all : Played) →
    Plays old now (stops_or a a.stops more) all → IsEffect a [] out ks w stops → stops ≡ false → Appends now new out → Plays old new (more w ks) all
plays_more old now new out ks w a stops more all h is goes wrote =
    let same : stops_or a a.stops more ≡ stops_or a false more = ap (λ (b : Bool). stops_or a b more) (sym is.stops_is ∙ goes) in
    let rest : more a.server a.clients ≡ more w ks = ap (λ (v : Serving). more v a.clients) (sym is.server_is) ∙ ap (λ (l : List Client). more w l) (sym is.clients_are) in
    record {
      told = h.told ++ out;
      written = appends_both old now new h.told out h.written wrote;
      text =
          append_assoc h.told out (more w ks).text
          ∙ ap (λ (l : List ℕ). h.told ++ (l ++ (more w ks).text)) is.text
          ∙ ap (λ (p : Played). h.told ++ (a.text ++ p.text)) (sym rest)
          ∙ ap (λ (p : Played). h.told ++ p.text) (sym same)
          ∙ h.text;
      status = ap (λ (p : Played). p.status) (sym rest) ∙ ap (λ (p : Played). p.status) (sym same) ∙ h.status;
    }

-- a line was written, and the script stops at it
pub plays_stop : (old now new : Option (List ℕ)) (out : List ℕ) (ks : List Client) (w : Serving) (a : Effect) (stops : Bool) (more : Serving → List Client → Played) (all : Played) →
    Plays old now (stops_or a a.stops more) all → IsEffect a [] out ks w stops → stops ≡ true → Appends now new out → Appends old new all.text × (1 ≡ all.status)
plays_stop old now new out ks w a stops more all h is stop wrote =
    let same : stops_or a a.stops more ≡ stops_or a true more = ap (λ (b : Bool). stops_or a b more) (sym is.stops_is ∙ stop) in (
      appends_same old new (h.told ++ out) all.text
          (ap (λ (l : List ℕ). h.told ++ l) is.text ∙ ap (λ (p : Played). h.told ++ p.text) (sym same) ∙ h.text)
          (appends_both old now new h.told out h.written wrote),
      ap (λ (p : Played). p.status) (sym same) ∙ h.status,
    )

-- no line is left
pub plays_end : (old now : Option (List ℕ)) (rest all : Played) → rest.text ≡ [] → rest.status ≡ 0 → Plays old now rest all → Appends old now all.text × (0 ≡ all.status)
plays_end old now rest all none nil h = (
  appends_same old now h.told all.text (sym (append-nil h.told) ∙ ap (λ (l : List ℕ). h.told ++ l) (sym none) ∙ h.text) h.written,
  sym nil ∙ h.status,
)

-- the buffer of a line was empty
pub IsEffect-fresh : (a : Effect) (before out : List ℕ) (ks : List Client) (w : Serving) (stops : Bool) → before ≡ [] → IsEffect a before out ks w stops → IsEffect a [] out ks w stops
IsEffect-fresh a before out ks w stops e h = let P : List ℕ → Type 0 = λ l. IsEffect a l out ks w stops in subst P e h

-- the first of the lines that are left
plays_line : (old now : Option (List ℕ)) (number : ℕ) (progress : Progress) (lines rest : List (List ℕ)) (text : List ℕ) (w : Serving) (ks : List Client) (all : Played) → lines ≡ text ∷ rest →
    Plays old now (played number progress lines w ks) all →
    Plays old now (stops_or (line_and_drains number progress (line_of text) w ks) (line_and_drains number progress (line_of text) w ks).stops (λ v l. played (number + 1) (progress_after progress (line_of text)) rest v l)) all
unfolding played
plays_line old now number progress lines rest text w ks all e h = let P : List (List ℕ) → Type 0 = λ l. Plays old now (played number progress l w ks) all in subst P e h

-- the line that was read is the text's
pub plays_read : (old now : Option (List ℕ)) (number : ℕ) (progress : Progress) (lines rest : List (List ℕ)) (text : List ℕ) (line : Line) (after : Progress) (w : Serving) (ks : List Client) (all : Played) → lines ≡ text ∷ rest →
    line ≡ line_of text → after ≡ progress_after progress line → Plays old now (played number progress lines w ks) all →
    Plays old now (stops_or (line_and_drains number progress line w ks) (line_and_drains number progress line w ks).stops (λ v l. played (number + 1) after rest v l)) all
plays_read old now number progress lines rest text line after w ks all e read next h =
    let P : Progress → Type 0 = λ p. Plays old now (stops_or (line_and_drains number progress line w ks) (line_and_drains number progress line w ks).stops (λ v l. played (number + 1) p rest v l)) all in
    let Q : Line → Type 0 = λ x. Plays old now (stops_or (line_and_drains number progress x w ks) (line_and_drains number progress x w ks).stops (λ v l. played (number + 1) (progress_after progress x) rest v l)) all in
    subst P (sym next) (subst Q (sym read) (plays_line old now number progress lines rest text w ks all e h))

-- no line is left
pub plays_last : (old now : Option (List ℕ)) (number : ℕ) (progress : Progress) (lines : List (List ℕ)) (w : Serving) (ks : List Client) (all : Played) → lines ≡ [] →
    Plays old now (played number progress lines w ks) all → Appends old now all.text × (0 ≡ all.status)
unfolding played
plays_last old now number progress lines w ks all e h =
    let P : List (List ℕ) → Type 0 = λ l. Plays old now (played number progress l w ks) all in
    plays_end old now (played number progress [] w ks) all refl refl (subst P e h)

-- the opening
pub plays_open : (old : Option (List ℕ)) (script : List ℕ) (lines : List (List ℕ)) (w : Serving) (ks : List Client) → lines ≡ lines_of script → w ≡ opening builtin_doc → ks ≡ [] →
    Plays old old (played 1 Head lines w ks) (output_of script)
unfolding output_of
plays_open old script lines w ks el ew ek =
    let same : played 1 Head lines w ks ≡ output_of script =
    ap (λ (l : List (List ℕ)). played 1 Head l w ks) el ∙ ap (λ (v : Serving). played 1 Head (lines_of script) v ks) ew ∙ ap (λ (k : List Client). played 1 Head (lines_of script) (opening builtin_doc) k) ek in
    let P : Played → Type 0 = λ p. Plays old old p (output_of script) in
    subst P (sym same) (plays_start old (output_of script))

-- what holds anyway holds at an error
pub OnErr-always : {T E : Type 0} (r : Result T E) (P : Type 0) → P → OnErr r P
OnErr-always (Ok _) P h = tt
OnErr-always (Err _) P h = h
