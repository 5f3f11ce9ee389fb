-- The text that a template makes of tokens is theirs.
use Rattle.std.proofs.lemmas.List.{append-nil}
use Rattle.std.proofs.Common.{◌≡◌, ◌<◌, ◌∙◌, ◌++◌, ◌∷◌, ℕ, true, List, [], length, append_assoc, ap, sym, refl, arith}
use Rattle.std.specs.List.{list_all}
use Rattle.std.proofs.lemmas.Bool.{and_parts}
use Rattle.subjects.specs.Subject.{Token, is_token, text_of, tokens_of}
use Rattle.subjects.proofs.Grammar.{not_empty}
use Rattle.subjects.proofs.Text.{tokens_again}
use Rattle.mapping.specs.templates.Text.{with_token, with_tokens}

-- tokens, each behind a dot
abbrev behind_text : List Token → List ℕ
behind_text [] = []
behind_text (t ∷ ts) = 46 ∷ (t ++ behind_text ts)

joined : (t : Token) (ts : List Token) → text_of (t ∷ ts) ≡ t ++ behind_text ts
joined t [] = sym (append-nil t)
joined t (u ∷ ts) = ap (λ text. t ++ (46 ∷ text)) (joined u ts)

behind : (b : ℕ) (bs : List ℕ) (ts : List Token) → with_tokens (b ∷ bs) ts ≡ (b ∷ bs) ++ behind_text ts
behind b bs [] = sym (append-nil (b ∷ bs))
behind b bs (t ∷ ts) =
    rw (not_empty b bs) (behind b (bs ++ (46 ∷ t)) ts ∙ ap (λ text. b ∷ text) (append_assoc bs (46 ∷ t) (behind_text ts)))

-- the text is the tokens', joined by dots
pub with-text_of : (ts : List Token) → list_all is_token ts ≡ true → with_tokens [] ts ≡ text_of ts
with-text_of [] h = refl
with-text_of ([] ∷ ts) h = absurd (cc)
with-text_of ((b ∷ bs) ∷ ts) h = behind b bs ts ∙ sym (joined (b ∷ bs) ts)

pub with-append : (text : List ℕ) (ts us : List Token) → with_tokens (with_tokens text ts) us ≡ with_tokens text (ts ++ us)
with-append text [] us = refl
with-append text (t ∷ ts) us = with-append (with_token text t) ts us

-- and is cut into them again
pub with-tokens_of : (ts : List Token) → list_all is_token ts ≡ true → 0 < length ts → tokens_of (with_tokens [] ts) ≡ ts
with-tokens_of [] h n = absurd (omega arith)
with-tokens_of (t ∷ ts) h n = ap tokens_of (with-text_of (t ∷ ts) h) ∙ tokens_again t ts h

pub tokens-append : (ts us : List Token) → list_all is_token ts ≡ true → list_all is_token us ≡ true → list_all is_token (ts ++ us) ≡ true
tokens-append [] us h k = k
tokens-append (t ∷ ts) us h k =
    let parts = and_parts (is_token t) (list_all is_token ts) h in
    rw (parts.0, tokens-append ts us parts.1 k) refl
