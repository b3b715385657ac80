-- What a reader's bytes become in turns.
use Rattle.std.proofs.Common.{◌≡◌, ℕ, List, [], ◌++◌, Option, Some, None, sym, ◌∙◌, ap, append_assoc}
use Rattle.std.proofs.lemmas.List.{append-nil}
use Rattle.std.specs.Io.KnownBytes.{Consumes, IsAtEnd, Keeps}
use Rattle.std.specs.Prelude.{IfSome}

pub consumes-more : (a b c : Option (List ℕ)) (bs cs : List ℕ) → Consumes a b bs → Consumes b c cs → Consumes a c (bs ++ cs)
consumes-more None b c bs cs h k = tt
consumes-more (Some xs) None c bs cs h k = absurd h
consumes-more (Some xs) (Some ys) None bs cs h k = absurd k
consumes-more (Some xs) (Some ys) (Some zs) bs cs h k = h ∙ ap (λ (l : List ℕ). bs ++ l) k ∙ sym (append_assoc bs cs zs)

pub consumes-kept : (a b c : Option (List ℕ)) (bs : List ℕ) → Consumes a b bs → Keeps b c → Consumes a c bs
consumes-kept None b c bs h k = tt
consumes-kept (Some xs) None c bs h k = absurd h
consumes-kept (Some xs) (Some ys) None bs h k = absurd k
consumes-kept (Some xs) (Some ys) (Some zs) bs h k = h ∙ ap (λ (l : List ℕ). bs ++ l) (sym k)

-- At the end all of the bytes were read.
pub consumes-all : (a b : Option (List ℕ)) (bs : List ℕ) → Consumes a b bs → IsAtEnd b → IfSome a (λ xs. bs ≡ xs)
consumes-all None b bs h end = tt
consumes-all (Some xs) None bs h end = absurd h
consumes-all (Some xs) (Some ys) bs h end = sym (h ∙ ap (λ (l : List ℕ). bs ++ l) end ∙ append-nil bs)

-- A read of no byte
pub consumes-none : (a b c : Option (List ℕ)) (bs cs : List ℕ) → Consumes a b bs → Consumes b c cs → cs ≡ [] → Consumes a c bs
consumes-none None b c bs cs h k e = tt
consumes-none (Some xs) None c bs cs h k e = absurd h
consumes-none (Some xs) (Some ys) None bs cs h k e = absurd k
consumes-none (Some xs) (Some ys) (Some zs) bs cs h k e = h ∙ ap (λ (l : List ℕ). bs ++ l) (k ∙ ap (λ (l : List ℕ). l ++ zs) e)
