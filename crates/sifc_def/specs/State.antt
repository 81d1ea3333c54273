-- The walk's context, its state and its small steps: the fields of Parser, and consume, expect, optional, match_ident, add_error and add_error_w_pos of
-- parser.rs. A step is a function of the state. Its outcome is a value, a declaration that failed (the Rust's `Err`), or a refusal.
use Rattle.std.specs.Prelude.{ℕ, suc, ◌-◌, List, ◌∷◌, ◌++◌, map, reverse, Bool, true, false, eqb, ltb, take, drop, length, get_or}
use Rattle.std.proofs.Math.Option.{Option, none, some}
use Rattle.sifc_err.specs.declared.Token.{Token}
use Rattle.sifc_err.specs.declared.Refusal.{Refusal}
use Rattle.sifc_err.specs.declared.Refusal.TheVariants.{SourceFault, NodesFull, ErrorsFull}
use Rattle.sifc_word.specs.Base.{if◌then◌otherwise◌, part}
use Rattle.sifc_word.specs.Kind.{Ident, Str, Eof, LexPanic}
use Rattle.sifc_lex.specs.Lex.{token}
use Rattle.sifc_def.specs.declared.Err.{Err}
use Rattle.sifc_def.specs.Why.{Why}
use Rattle.sifc_err.specs.declared.parse_err.ParseErrTy.TheVariants.{InvalidIdent, TknMismatch}
use Rattle.sifc_def.specs.declared.What.{What}

infixr 20 ◌>>=◌
infixr 20 ◌>>◌
-- ── what a walk is given, and what it has ──

-- A node: its kind (Ast.antt), is_global or is_std, its number of children, and its payload.
pub record Node : Type 0 where
  pub kind : ℕ
  pub flag : Bool
  pub kids : ℕ
  pub pay : ℕ

abbrev pub node : ℕ → Bool → ℕ → ℕ → Node
node k f n p = record { kind = k; flag = f; kids = n; pay = p }

-- An entry of the symbol table: "The table is a map from (level, name)."
pub record Sym : Type 0 where
  pub level : ℕ
  pub name : List ℕ
  pub what : What

-- The script, its tokens (the last of kind Eof or LexPanic), the kind of the lexing panic if one ends them, and how many nodes, symbols and errors there is
-- room for.
pub record Ctx : Type 0 where
  pub script : List ℕ
  pub toks : List Token
  pub fault : ℕ
  pub node_room : ℕ
  pub sym_room : ℕ
  pub err_room : ℕ

-- The index of the current token, curr_tkn; the nodes, newest first: children before their parent, so that the root of what was read last is the newest; the
-- symbols, oldest first; curr_lvl; should_check_sym_tab; the listed errors, newest first.
pub record St : Type 0 where
  pub at : ℕ
  pub nodes : List Node
  pub syms : List Sym
  pub level : ℕ
  pub check : Bool
  pub errs : List Err

-- What a step comes to. A failed declaration keeps its state: "A failed block leaves its level raised".
pub data Out (A : Type 0) : Type 0 where
  done : A → St → Out A
  fail : Err → St → Out A
  refuse : Refusal → Out A

abbrev pub M : Type 0 → Type 0
M A = St → Out A

abbrev pub Void : Type 0
Void = M (Unit {0})

-- the Rust's `?`: a value goes on, a failure and a refusal stay. Shut: a proof that steps over it opens it by name
unfoldable pub go_on : {A B : Type 0} → Out A → (A → M B) → Out B
go_on (done a s) f = f a s
go_on (fail e s) f = fail e s
go_on (refuse r) f = refuse r

abbrev pub ◌>>=◌ : {A B : Type 0} → M A → (A → M B) → M B
◌>>=◌ m f s = go_on (m s) f

abbrev pub ◌>>◌ : {A B : Type 0} → M A → M B → M B
◌>>◌ m k s = go_on (m s) (λ a. k)

abbrev pub return : {A : Type 0} → A → M A
return a s = done a s

abbrev pub ok : Void
ok s = done tt s

abbrev pub when : Bool → Void → Void
when b m = if b then m otherwise ok

-- A token's kind and text: all that a reading sees of it, but for where it stands.
pub record W : Type 0 where
  pub kind : ℕ
  pub text : List ℕ

-- get_name of token.rs: "A Str's spelling lacks its quotes, its text has them."
unfoldable pub name_of : W → List ℕ
name_of x = if eqb x.kind Str then take (length x.text - 2) (drop 1 x.text) otherwise x.text

abbrev pub token_at : List Token → ℕ → Token
token_at ts i = get_or ts i (token Eof 0 0)

abbrev pub word_in : List ℕ → Token → W
word_in s t = record { kind = t.kind; text = part t.off t.len s }

abbrev pub err : ℕ → Why → Err
err i w = record { place = i; why = w }

module _ (c : Ctx) where
  -- ── tokens ──

  abbrev pub tok_at : ℕ → Token
  tok_at i = token_at c.toks i

  abbrev pub word_at : ℕ → W
  word_at i = word_in c.script (tok_at i)

  abbrev pub name_at : ℕ → List ℕ
  name_at i = name_of (word_at i)

  -- self.curr_tkn: its index, and self.curr_tkn.ty
  abbrev pub here : M ℕ
  here s = done s.at s

  abbrev pub kind_now : M ℕ
  kind_now s = done (tok_at s.at).kind s

  -- panics 3 to 5 of the reference, with the opening sign's offset
  unfoldable pub panic_at : {A : Type 0} → ℕ → ℕ → M A
  panic_at kind i s = refuse (SourceFault kind (tok_at i).off)

  -- Panics 1 and 2: a lexing panic is met as soon as it would be the current token.
  unfoldable pub arrive : Void
  arrive s = if eqb (tok_at s.at).kind LexPanic then refuse (SourceFault c.fault (tok_at s.at).off) otherwise done tt s

  -- consume: the next token. Eof is given "for good".
  unfoldable pub consume : Void
  consume s =
      if eqb (tok_at s.at).kind Eof then done tt s
      otherwise arrive (record { at = suc s.at; nodes = s.nodes; syms = s.syms; level = s.level; check = s.check; errs = s.errs })

  -- ── errors ──

  -- errors.push, refusal 9
  unfoldable pub list : Err → Void
  list e s =
      if ltb (length s.errs) c.err_room then done tt (record { at = s.at; nodes = s.nodes; syms = s.syms; level = s.level; check = s.check; errs = e ∷ s.errs })
      otherwise refuse ErrorsFull

  -- the Rust's `Err(e)`
  unfoldable pub raise : {A : Type 0} → Err → M A
  raise e s = fail e s

  -- add_error_w_pos, the place given by a token
  unfoldable pub add_error_w_pos : ℕ → Why → M Err
  add_error_w_pos i why = do
    list (err i why)
    return (err i why)

  -- add_error
  unfoldable pub add_error : Why → M Err
  add_error why = do
    i ← here
    add_error_w_pos i why

  -- `return Err(self.add_error(why))`
  unfoldable pub throw : {A : Type 0} → Why → M A
  throw why = do
    e ← add_error why
    raise e

  -- an error whose token is passed: add_error, consume, `Err`
  unfoldable pub throw_past : {A : Type 0} → Why → M A
  throw_past why = do
    e ← add_error why
    consume
    raise e

  -- expect: "`expect` returns TknMismatch and lists nothing."
  unfoldable pub expect : ℕ → Void
  expect k = do
    k' ← kind_now
    i ← here
    if eqb k' k then consume otherwise raise (err i (TknMismatch k i))

  -- optional
  unfoldable pub optional : ℕ → M Bool
  optional k = do
    k' ← kind_now
    if eqb k' k then
        (do
          consume
          return true)
        otherwise return false

  -- match_ident: the name's token
  unfoldable pub match_ident : M (Option ℕ)
  match_ident = do
    k ← kind_now
    i ← here
    if eqb k Ident then
        (do
          consume
          return (some i))
        otherwise do
          add_error (InvalidIdent i)
          return none

  -- what its callers do without a name: "A missing name lists two errors."
  unfoldable pub or_throw : Why → Option ℕ → M ℕ
  or_throw why (some i) = return i
  or_throw why none = throw why

  unfoldable pub ident : (ℕ → Why) → M ℕ
  ident why = do
    i ← here
    found ← match_ident
    or_throw (why i) found

  -- ── nodes ──

  -- a node that the Rust builds, refusal 7
  unfoldable pub push : ℕ → Bool → ℕ → ℕ → Void
  push k f n p s =
      if ltb (length s.nodes) c.node_room then done tt (record { at = s.at; nodes = node k f n p ∷ s.nodes; syms = s.syms; level = s.level; check = s.check; errs = s.errs })
      otherwise refuse NodesFull

  -- the root of what was read last
  abbrev pub top : M Node
  top s = done (get_or s.nodes 0 (node 0 false 0 0)) s

  abbrev pub count : M ℕ
  count s = done (length s.nodes) s

  -- the payloads of the n newest nodes, in the order in which they were built
  abbrev pub loads : ℕ → M (List ℕ)
  loads n s = done (reverse (map (λ (x : Node). x.pay) (take n s.nodes))) s

  unfoldable pub set_nodes : (List Node → List Node) → Void
  set_nodes f s = done tt (record { at = s.at; nodes = f s.nodes; syms = s.syms; level = s.level; check = s.check; errs = s.errs })

-- the first n nodes only
unfoldable pub keep : ℕ → List Node → List Node
keep n xs = drop (length xs - n) xs

-- all but node number n, counted from 0
unfoldable pub without : ℕ → List Node → List Node
without n xs = take (length xs - suc n) xs ++ drop (length xs - n) xs
