-- What is answered to a question, from what was made of its texts.
use Rattle.std.proofs.Common.{◌≡◌, ◌∙◌, ℕ, List, ap, refl, sym, subst, Option, Some, None, Result, Ok, Err, IsErrAnd, if◌then◌else◌}
use Rattle.std.specs.Prelude.{is_some}
use Rattle.subjects.specs.Subject.{Token, tokens_of}
use Rattle.subjects.specs.Fault.{pattern_fault, pattern_if, subject_fault, subject_if, IsParse}
use Rattle.subjects.specs.declared.error.SubjectError.{SubjectError}
use Rattle.subjects.specs.declared.error.SubjectError.TheVariants as parsing
use Rattle.explain.specs.Fault.{Answers}
use Rattle.explain.specs.Lines.{explanation_text}
use Rattle.explain.specs.declared.explanation.Explanation.{Explanation}
use Rattle.explain.specs.declared.fault.ExplainFault.{ExplainFault}
use Rattle.explain.specs.declared.fault.ExplainFault.TheVariants as explaining
use Rattle.std.specs.Global.{Vec}
use Rattle.tasks.specs.Explaining.{Answer, from_text, of_explaining, of_parsing, told, with_queue, IsAnswered, IsAnsweredBy, IsRefused}
use Rattle.tasks.specs.declared.answer.AnswerFault.{AnswerFault}
use Rattle.tasks.specs.declared.answer.AnswerFault.TheVariants.{BadSubject, NoSuchUser, NoSuchAccount, NoMemory}

-- ---- a text

-- the tokens of a text that has no fault
abbrev tokens_if : List ℕ → Option SubjectError → Option (List Token)
tokens_if text fault = if is_some fault then None else Some (tokens_of text)

bad : (X : Type 0) (error : SubjectError) → IsRefused {X = X} (Err BadSubject) (of_parsing error)
bad X parsing.Empty = refl
bad X parsing.EmptyToken = refl
bad X parsing.BadByte = refl
bad X parsing.WildcardNotLast = refl
bad X parsing.TooManyTokens = refl
bad X parsing.NoMemory = tt
bad X parsing.Wildcard = refl

refused : {X : Type 0} (text : List ℕ) (fault : Option SubjectError) (error : SubjectError) (answer : List Token → Result X AnswerFault) → IsParse text fault (Err error) →
    IsRefused (from_text (tokens_if text fault) answer) (of_parsing error)
refused text None error answer h = subst (λ e. IsRefused (answer (tokens_of text)) (of_parsing e)) (sym h) tt
refused text (Some fault) error answer h = bad _ error

taken : (text : List ℕ) (fault : Option SubjectError) (tokens : List Token) → IsParse text fault (Ok tokens) → tokens_if text fault ≡ Some tokens
taken text None tokens h = ap Some (sym h)
taken text (Some fault) tokens h = absurd h

-- a text of which the bytes were read that has a fault
pub no_subject : {X : Type 0} (read text : List ℕ) (error : SubjectError) (answer : List Token → Result X AnswerFault) → read ≡ text → IsParse read (subject_fault read) (Err error) →
    IsRefused (from_text (subject_if text) answer) (of_parsing error)
no_subject read text error answer same h = refused text (subject_fault text) error answer (subst (λ t. IsParse t (subject_fault t) (Err error)) same h)

pub no_pattern : {X : Type 0} (read text : List ℕ) (error : SubjectError) (answer : List Token → Result X AnswerFault) → read ≡ text → IsParse read (pattern_fault read) (Err error) →
    IsRefused (from_text (pattern_if text) answer) (of_parsing error)
no_pattern read text error answer same h = refused text (pattern_fault text) error answer (subst (λ t. IsParse t (pattern_fault t) (Err error)) same h)

-- what is answered of the tokens is answered of the text
pub with_subject : {X : Type 0} (read text : List ℕ) (tokens : List Token) (answer : List Token → Result X AnswerFault) → read ≡ text → IsParse read (subject_fault read) (Ok tokens) →
    from_text (subject_if text) answer ≡ answer tokens
with_subject read text tokens answer same h = ap (λ ts. from_text ts answer) (taken text (subject_fault text) tokens (subst (λ t. IsParse t (subject_fault t) (Ok tokens)) same h))

pub with_pattern : {X : Type 0} (read text : List ℕ) (tokens : List Token) (answer : List Token → Result X AnswerFault) → read ≡ text → IsParse read (pattern_fault read) (Ok tokens) →
    from_text (pattern_if text) answer ≡ answer tokens
with_pattern read text tokens answer same h = ap (λ ts. from_text ts answer) (taken text (pattern_fault text) tokens (subst (λ t. IsParse t (pattern_fault t) (Ok tokens)) same h))

-- ---- a queue name

pub no_queue : (queue : Result (Option (List Token)) AnswerFault) (answer : Option (List Token) → Answer) (fault : AnswerFault) → IsRefused queue fault → IsRefused (with_queue queue answer) fault
no_queue queue answer BadSubject h = ap (λ q. with_queue q answer) h
no_queue queue answer NoSuchUser h = ap (λ q. with_queue q answer) h
no_queue queue answer NoSuchAccount h = ap (λ q. with_queue q answer) h
no_queue queue answer NoMemory h = tt

-- ---- what was found

itself : (missing fault : ExplainFault) → fault ≡ missing → IsRefused {X = List ℕ} (Err (of_explaining missing)) (of_explaining fault)
itself explaining.NoSuchUser fault h = subst (λ f. IsRefused {X = List ℕ} (Err NoSuchUser) (of_explaining f)) (sym h) refl
itself explaining.NoSuchAccount fault h = subst (λ f. IsRefused {X = List ℕ} (Err NoSuchAccount) (of_explaining f)) (sym h) refl
itself explaining.NoMemory fault h = subst (λ f. IsRefused {X = List ℕ} (Err NoMemory) (of_explaining f)) (sym h) tt

pub unknown : {X : Type 0} (missing : ExplainFault) (answer : Option X → Answer) (found : Option X) (fault : ExplainFault) → answer None ≡ Err (of_explaining missing) → Answers missing found (Err fault) →
    IsRefused (answer found) (of_explaining fault)
unknown missing answer None fault e h = subst (λ (w : Answer). IsRefused w (of_explaining fault)) (sym e) (itself missing fault h)
unknown missing answer (Some x) fault e h = subst (λ f. IsRefused (answer (Some x)) (of_explaining f)) (sym h) tt

found_is : {X : Type 0} (missing : ExplainFault) (found : Option X) (x : X) → Answers missing found (Ok x) → found ≡ Some x
found_is missing None x h = absurd h
found_is missing (Some y) x h = ap Some (sym h)

-- the lines of a reason that was found
pub told_is : (found : Option Explanation) (reason : Explanation) (lines : List ℕ) → Answers explaining.NoSuchUser found (Ok reason) → lines ≡ explanation_text reason → told found ≡ Ok lines
told_is found reason lines h e = ap told (found_is explaining.NoSuchUser found reason h) ∙ ap Ok (sym e)

-- what is told of a user, by the name and the queue name that were read
pub told_of : (known : List ℕ → Option (List Token) → Option Explanation) (who read : List ℕ) (queue : Result (Option (List Token)) AnswerFault) (name lent : Option (List Token)) →
    queue ≡ Ok name → read ≡ who → lent ≡ name → with_queue queue (λ q. told (known who q)) ≡ told (known read lent)
told_of known who read queue name lent named same same_name =
    ap (λ asked. with_queue asked (λ q. told (known who q))) named ∙ ap (λ q. told (known who q)) (sym same_name) ∙ ap (λ user. told (known user lent)) (sym same)

-- ---- an error that is handed on

pub handed_on : (wanted : Answer) (r : Result (Vec ℕ) AnswerFault) (fault : AnswerFault) → IsErrAnd r (λ e. e ≡ fault) → IsRefused wanted fault → IsAnswered wanted r
handed_on wanted (Ok lines) fault is h = absurd is
handed_on wanted (Err e) fault is h = subst (IsRefused wanted) (sym is) h

pub handed_on_by : {X : Type 0} (wanted r : Result X AnswerFault) (fault : AnswerFault) → IsErrAnd r (λ e. e ≡ fault) → IsRefused wanted fault → IsAnsweredBy wanted r
handed_on_by wanted (Ok x) fault is h = absurd is
handed_on_by wanted (Err e) fault is h = subst (IsRefused wanted) (sym is) h
