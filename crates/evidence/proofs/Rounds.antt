-- A round reaches no panel that single splits and merges don't. So what holds after any run of these holds with rounds among them. And one round that is known.
use mathlib.Core.Path.{◌≡◌, refl, sym, ap, subst}
use mathlib.Core.Logic.{inr}
use mathlib.Core.List.{List, [], ◌∷◌}
use Prim.Native.Nat.{ℕ, zero, suc, ◌≤◌, ◌<◌}
use native.Mathlib.Decide.{ℕ_discrete}
use native.Mathlib.Omega.{arith}
use Rattle.bits.specs.Bits.{Bytes}
use Rattle.bits.specs.Little.{little}
use Rattle.tables.proofs.Tables.{is_done}
use Rattle.records.specs.Records.{number, Fine}
use Rattle.records.specs.InTurn.InTurn.{none, more}
use Rattle.records.proofs.InTurn.{turns_keep}
use Rattle.rounds.specs.Rounds.{Single, InOrder, Lent, Round}
use Rattle.rounds.specs.Rounds.Single.{bad, split, merge}
use Rattle.evidence.specs.Known.{opened, four_leaves, five_leaves, asks, known_records, KnownRound}
use Rattle.evidence.proofs.Held.{Since}
use Rattle.evidence.proofs.Held.Since.{split as splits, merged as merges}
use Rattle.evidence.proofs.Known.{known}
use Rattle.evidence.proofs.Sequences.{Reached, split_done}
use Rattle.evidence.proofs.Sequences.Reached.{split as has_split, merged as has-merged}

-- what every record keeps, a round keeps: refused, it changes nothing
module _ {s rs out : List ℕ} {n : ℕ} {x : Lent} (P : List ℕ → Type 0) (f : (r : List ℕ) (m : ℕ) (t u : List ℕ) → P t → Single r t m u → P u) where
  round_keeps : P s → Round s rs out n x → P x.panel
  round_keeps h o = go (ℕ_discrete n 0)
    where
      go : Dec (n ≡ 0) → P x.panel
      go (yes z) = turns_keep P (λ r m t u k q. f r m t u k q.0) h (o.done z).in_order
      go (no z) = subst P (sym (ap (λ y. y.panel) (o.refused z))) h

single_reached : (r : List ℕ) (m : ℕ) (t u : List ℕ) → Reached t → Single r t m u → Reached u
single_reached r m t u h (bad f) = h
single_reached r m t u h (split f e o) = has_split (number r) m h o
single_reached r m t u h (merge f e o) = has-merged (number r) m h o

pub round_reached : {s rs out : List ℕ} {n : ℕ} {x : Lent} → Reached s → Round s rs out n x → Reached x.panel
round_reached = round_keeps Reached single_reached

single_since : (s : List ℕ) (l : ℕ) (r : List ℕ) (m : ℕ) (t u : List ℕ) → Since s l t → Single r t m u → Since s l u
single_since s l r m t u h (bad f) = h
single_since s l r m t u h (split f e o) = splits h o
single_since s l r m t u h (merge f e o) = merges h o

pub round_since : {s t rs out : List ℕ} {l n : ℕ} {x : Lent} → Since s l t → Round t rs out n x → Since s l x.panel
round_since {s} {l = l} = round_keeps (Since s l) (single_since s l)

-- ---- a known round

abbrev AllBytes : List ℕ → Type 0
AllBytes [] = Unit {0}
AllBytes (x ∷ l) = (x < 256) × AllBytes l

bytes_all : (l : List ℕ) → AllBytes l → Bytes l
bytes_all [] h i = omega arith
bytes_all (x ∷ l) h zero = h.0
bytes_all (x ∷ l) h (suc i) = bytes_all l h.1 i

asks_fine : (c k : ℕ) → 1 ≤ c → c ≤ 2 → Fine 1 2 (asks c k)
asks_fine c k l h = record { whole = refl; least = l; most = h; spare_1 = refl; spare_2 = refl; spare_3 = refl }

-- the first records of it
abbrev Known : List ℕ → List ℕ → Type 0
Known given t = InOrder known_records (opened 0) given t

-- they are cases that are known
pub known_round : KnownRound
unfolding little
known_round =
    let four = bytes_all (four_leaves 0) (omega arith) in
    let five = bytes_all (five_leaves 0) (omega arith) in
    let cut = known.1.0.0 in
    let again = known.1.1.0.0 in
    let lacking = known.1.1.1.1.1.1.1.0.0 in
    let below = known.1.1.1.1.1.1.1.1.1.1.0.split in
    let a : Known (0 ∷ []) (four_leaves 0) = more {given = []} none (split (asks_fine 1 2 (omega arith) (omega arith)) refl cut, four) in
    let b : Known (0 ∷ 10 ∷ []) (four_leaves 0) = more {given = 0 ∷ []} a (split (asks_fine 1 8 (omega arith) (omega arith)) refl below, four) in
    let c : Known (0 ∷ 10 ∷ 9 ∷ []) (four_leaves 0) = more {given = 0 ∷ 10 ∷ []} b (bad (λ f. omega (arith, f.most)), four) in
    let d : Known (0 ∷ 10 ∷ 9 ∷ 0 ∷ []) (five_leaves 0) = more {given = 0 ∷ 10 ∷ 9 ∷ []} c (split (asks_fine 1 4 (omega arith) (omega arith)) refl again, five) in
    let e : Known (0 ∷ 10 ∷ 9 ∷ 0 ∷ 7 ∷ []) (five_leaves 0) = more {given = 0 ∷ 10 ∷ 9 ∷ 0 ∷ []} d (merge (asks_fine 2 5 (omega arith) (omega arith)) refl lacking, five) in
    let g = (split_done cut).good in
    is_done (inr (g.fits, inr (g, inr (omega arith, inr (refl, refl))))) (record { in_order = e; long = refl; rest = refl })
