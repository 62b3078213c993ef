-- The promises of the C interface determine what is returned and what every lent place holds. Assumes nothing.
use mathlib.Core.Path.{◌≡◌, sym, ap, ◌∙◌}
use mathlib.Core.List.{List, [], ◌∷◌}
use Prim.Native.Nat.{ℕ}
use lib.IntN.{ℤ}
use Rattle.std.specs.Prelude.{Result}
use Rattle.orders.specs.Refusals.{Test, Said, gives, refuses, says}
use Rattle.orders.specs.declared.Refusal.{Refusal}
use Rattle.canon.specs.Answers.{Answer, Verdict, Filled}
use Rattle.canon.specs.Promises.{Routed, Judges, ColumnHeads}
use Rattle.canon.proofs.Unique.{routed_once, judges_once, column_heads_once}
use Rattle.reader.specs.Promise.{ReadPromise, Lent}
use Rattle.reader.proofs.Unique.{read_once}
use Rattle.writer.specs.Promise.{WritePromise, Model}
use Rattle.writer.proofs.Unique.{write_once}
use Rattle.printing.specs.Promise.{PrintPromise}
use Rattle.printing.proofs.Unique.{print_once}
use Rattle.telling.specs.Telling.{Returns, gave, kept_back, itself, no_result, bit, ReturnsRead, read, at_line, refused}
use Rattle.exports.specs.Told.{Told, ToldRead}

-- what an answer is returned as
abbrev number : {X : Type 0} → Said X → ℕ
number (gives x) = 0
number (refuses k values) = k

-- what a single result then holds
abbrev held : {X Y : Type 0} → (X → Y) → Y → Said X → Y
held code before (gives x) = code x
held code before (refuses k values) = before

-- a single result and what is returned follow from the answer
tells_is : {X Y : Type 0} {code : X → Y} {s : Said X} {r : ℕ} {before after : Y} → Returns code s r before after → (r ≡ number s) × (after ≡ held code before s)
tells_is {code = code} {before = before} (gave x e r a) = (r ∙ sym (ap number e), a ∙ sym (ap (held code before) e))
tells_is {code = code} {before = before} (kept_back k values e r a) = (r ∙ sym (ap number e), a ∙ sym (ap (held code before) e))

-- two outcomes that tell one answer are the same
told_once : {A X Y : Type 0} {P Q : A → Type 0} {tells : A → Said X} {code : X → Y} {r q : ℕ} {before after other : Y} (f : Told P tells code r before after)
    (g : Told Q tells code q before other) → f.answer ≡ g.answer → (r ≡ q) × (after ≡ other)
told_once {tells = tells} {code = code} {before = before} f g e =
    let (a, b) = tells_is f.told in
    let (c, d) = tells_is g.told in
    (a ∙ ap (λ x. number (tells x)) e ∙ sym c, b ∙ ap (λ x. held code before (tells x)) e ∙ sym d)

-- Routes 1, 2 and 3: what is returned, the sum and the three lists.
pub route_once : {tests : List Test} {n : ℕ} {t : List ℤ} {adds stars a b c d : List ℕ} {heads e f : List ℤ} {r q : ℕ} {sum after other : ℤ}
    → Told (λ (x : Answer). Routed tests n t adds stars heads x a c e) says itself r sum after
    → Told (λ (x : Answer). Routed tests n t adds stars heads x b d f) says itself q sum other
    → (r ≡ q) × (after ≡ other) × (a ≡ b) × (c ≡ d) × (e ≡ f)
route_once f g =
    let o = routed_once f.promised g.promised in
    let (r, s) = told_once f g o.answer in
    (r, s, o.same_adds, o.same_stars, o.same_heads)

-- The yes-or-no: what is returned and the byte.
pub verdict_once : {n : ℕ} {t : List ℤ} {given : List ℕ} {r q yes after other : ℕ} → Told (λ (x : Verdict). Judges n t given x) says bit r yes after
    → Told (λ (x : Verdict). Judges n t given x) says bit q yes other → (r ≡ q) × (after ≡ other)
verdict_once {n} {t} {given} f g = told_once f g (judges_once n t given f.promised g.promised)

-- The heads of all columns: what is returned, and the three lists.
pub filling_once : {n : ℕ} {t : List ℤ} {given rows counts a b c d : List ℕ} {heads e f : List ℤ} {r q : ℕ}
    → Told (λ (x : Filled). ColumnHeads n t given heads rows counts x e a c) says itself r no_result no_result
    → Told (λ (x : Filled). ColumnHeads n t given heads rows counts x f b d) says itself q no_result no_result
    → (r ≡ q) × (e ≡ f) × (a ≡ b) × (c ≡ d)
filling_once {n} {t} {given} {rows} {counts} {heads = heads} f g =
    let o = column_heads_once n t given heads rows counts f.promised g.promised in
    ((told_once f g o.answer).0, o.same_heads, o.same_rows, o.same_counts)

-- The writer: what is returned, the length and the room.
pub writing_once : {h : Model} {o p p' : List ℕ} {r q length after other : ℕ}
    → Told (λ (x : Result ℕ Refusal). WritePromise h o p (says x)) says itself r length after
    → Told (λ (x : Result ℕ Refusal). WritePromise h o p' (says x)) says itself q length other
    → (r ≡ q) × (after ≡ other) × (p ≡ p')
writing_once {h} {o} {p} {p'} f g =
    let (e, m) = write_once h o p p' f.answer g.answer f.promised g.promised in
    let (r, s) = told_once f g e in
    (r, s, m)

-- The printed answer: what is returned, the length and the room.
pub printing_once : {s room p p' : List ℕ} {r q length after other : ℕ}
    → Told (λ (x : Result ℕ Refusal). PrintPromise s room p (says x)) says itself r length after
    → Told (λ (x : Result ℕ Refusal). PrintPromise s room p' (says x)) says itself q length other
    → (r ≡ q) × (after ≡ other) × (p ≡ p')
printing_once {s} {room} {p} {p'} f g =
    let (e, m) = print_once s room p p' f.answer g.answer f.promised g.promised in
    let (r, t) = told_once f g e in
    (r, t, m)

-- what N and the line then hold
abbrev line_held : ℕ → Said ℕ → ℕ
line_held line (gives k) = line
line_held line (refuses k []) = line
line_held line (refuses k (v ∷ vs)) = v

tells_read_is : {s : Said ℕ} {r n line n' line' : ℕ} → ReturnsRead s r n line n' line' → (r ≡ number s) × (n' ≡ held itself n s) × (line' ≡ line_held line s)
tells_read_is {n = n} {line = line} (read k e r a b) = (r ∙ sym (ap number e), a ∙ sym (ap (held itself n) e), b ∙ sym (ap (line_held line) e))
tells_read_is {n = n} {line = line} (at_line k e r a b) = (r ∙ sym (ap number e), a ∙ sym (ap (held itself n) e), b ∙ sym (ap (line_held line) e))
tells_read_is {n = n} {line = line} (refused k e r a b) = (r ∙ sym (ap number e), a ∙ sym (ap (held itself n) e), b ∙ sym (ap (line_held line) e))

-- The reader: what is returned, N, the line, the table and the labels.
pub reading_once : {s : List ℕ} {m p p' : Lent} {r q n line n' line' n'' line'' : ℕ}
    → ToldRead (λ (x : Result ℕ Refusal). ReadPromise s m p (says x)) says r n line n' line'
    → ToldRead (λ (x : Result ℕ Refusal). ReadPromise s m p' (says x)) says q n line n'' line''
    → (r ≡ q) × (n' ≡ n'') × (line' ≡ line'') × (p ≡ p')
reading_once {s} {m} {p} {p'} {n = n} {line = line} f g =
    let (e, w) = read_once s m p p' f.answer g.answer f.promised g.promised in
    let (a, b, c) = tells_read_is f.told in
    let (a', b', c') = tells_read_is g.told in (
      a ∙ ap (λ (x : Result ℕ Refusal). number (says x)) e ∙ sym a',
      b ∙ ap (λ (x : Result ℕ Refusal). held itself n (says x)) e ∙ sym b',
      c ∙ ap (λ (x : Result ℕ Refusal). line_held line (says x)) e ∙ sym c',
      w,
    )
