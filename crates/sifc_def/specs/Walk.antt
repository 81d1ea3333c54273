-- The walk: the counted calls tied together, and parse of parser.rs.
use Rattle.std.specs.Prelude.{ℕ, zero, suc, [], Bool, true, false, eqb}
use Rattle.std.proofs.Math.Option.{Option, none, some}
use Rattle.sifc_err.specs.declared.Refusal.TheVariants.{TooDeep}
use Rattle.sifc_word.specs.Base.{if◌then◌otherwise◌, member, same}
use Rattle.sifc_word.specs.Kind.{Eof}
use Rattle.sifc_word.specs.Reserved.{is_std_lib_fn}
use Rattle.sifc_def.specs.declared.Err.{Err}
use Rattle.sifc_def.specs.Ast.{Program}
use Rattle.sifc_def.specs.Error.{continuable}
use Rattle.sifc_def.specs.State.{Ctx, St, Out, done, fail, refuse, M, Void, go_on, ◌>>=◌, ◌>>◌, return, name_of, kind_now, panic_at, arrive, consume, list, raise, add_error_w_pos, add_error, throw, throw_past, expect, optional, match_ident, or_throw, ident, push, count, set_nodes, keep, without}
use Rattle.sifc_def.specs.Symbols.{is_sym, find_at, find, put_at, retrieve, store, set_level, init_scope, close_scope, set_check}
use Rattle.sifc_def.specs.Expr.{Rec, fuel, looseness, is_unary, is_literal, operators, levels, assign_var, assign_token, assign_array, assign_nothing, assign_to, separator, param_list, single, call_counted, call_declared, call_name, is_named, call_named, literal, known, check_name, ident_expr, assign_expr, unary_expr, group_expr, at_expr, primary_expr, call_part, dot, index, postfix, fn_call_expr}
use Rattle.sifc_def.specs.Stmt.{bind, with_return, ident_node, param, ident_pair, declare_var, array_nodes, end_if, comma_list, array_decl, table_item, item_list, table_decl, initial, var_decl, fn_decl, elif_stmt, else_block, branches, if_stmt, for_stmt, ret_stmt, expr_stmt, stmt, decl, decls, block}

-- refusal 6: one call too many is active
abbrev pub too_deep : Void
too_deep s = refuse TooDeep

-- How a reading ends: has_err, and the error that ended it early.
pub record End : Type 0 where
  pub flag : Bool
  pub early : Option Err

abbrev pub end : Bool → Option Err → End
end f e = record { flag = f; early = e }

-- nothing read yet: new
abbrev pub start : St
start = record { at = 0; nodes = []; syms = []; level = 0; check = true; errs = [] }

module _ (c : Ctx) where
  -- the counted calls, where so many more may be active
  unfoldable pub walkers : ℕ → Rec
  walkers zero = record { block = λ body names. too_deep; assign = too_deep; unary = too_deep; call = too_deep }
  walkers (suc d) =
      record {
        block = block c (walkers d);
        assign = assign_expr c (walkers d);
        unary = unary_expr c (walkers d);
        call = fn_call_expr c (walkers d);
      }

  -- "A failed declaration leaves no nodes": there were n before it. Level and name checking stay as they are.
  unfoldable pub give_up : ℕ → Void
  give_up n = set_nodes c (keep n)

  -- the match on a declaration's result: the error, if it failed
  unfoldable pub settled : ℕ → Out (Unit {0}) → Out (Option Err)
  settled n (done a s) = done none s
  settled n (fail e s) = go_on (give_up n s) (λ a. return (some e))
  settled n (refuse r) = refuse r

  unfoldable pub top_decl : Void → M (Option Err)
  top_decl d = do
    n ← count c
    λ s. settled n (d s)

  -- the Program node, over n declarations
  unfoldable pub end_read : ℕ → Bool → Option Err → M End
  end_read n flag early = do
    push c Program false n 0
    return (end flag early)

  -- the loop of parse, after n declarations: "Only TknMismatch and FnParmCntExceeded end the reading."
  unfoldable pub program : ℕ → Void → ℕ → Bool → M End
  program zero d n flag = end_read n flag none
  program (suc f) d n flag = do
    k ← kind_now c
    if eqb k Eof then end_read n flag none
        otherwise do
          failed ← top_decl d
          elim failed [
            | none ↦ program f d (suc n) flag
            | some e ↦ if continuable c e.why then program f d n true otherwise end_read n true (some e)
          ]

  -- Parser::new, which looks at the first token, and parse, where at most so many counted calls may be active. Who unfolds `walk` unfolds all of it, to
  -- compute; a proof names what it opens.
  unfoldable pub walk : ℕ → Out End
  unfolding name_of panic_at arrive consume list raise add_error_w_pos add_error throw throw_past expect optional match_ident or_throw ident push set_nodes keep without is_sym find_at find put_at retrieve store set_level init_scope close_scope set_check looseness is_unary is_literal operators levels assign_var assign_token assign_array assign_nothing assign_to separator param_list single call_counted call_declared call_name is_named call_named literal known check_name ident_expr assign_expr unary_expr group_expr at_expr primary_expr call_part dot index postfix fn_call_expr bind with_return ident_node param ident_pair declare_var array_nodes end_if comma_list array_decl table_item item_list table_decl initial var_decl fn_decl elif_stmt else_block branches if_stmt for_stmt ret_stmt expr_stmt stmt decl decls block walkers give_up settled top_decl end_read program is_std_lib_fn member same go_on if◌then◌otherwise◌
  walk depth =
      (do
        arrive c
        program (suc (fuel c)) (decl c (walkers depth)) 0 false) start
