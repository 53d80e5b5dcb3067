-- The tables of `Cases` hold: cases 1 to 10, and those that tell mistakes apart which 1 to 10 let pass. By computing.
use Rattle.std.specs.Prelude.{T}
use Rattle.nll_spec.specs.Lists.{every}
use Rattle.nll_spec.specs.Fixpoint.{least}
use Rattle.nll_spec.specs.Decode.{done, refuse, ◌>>=◌, byte, count, pick, one_of, items, counted, borrow_kind, region, node_tag, args, tagged, type_within, type, variance, flag, kind, param, field, struct_decl, path, action, block, job, code_count, point_count, borrow_count, whole, decode_body, decode}
use Rattle.nll_spec.specs.Types.{arg_count, drop_args, field_type, step_type, step, type_after, path_type, never_stops, begins, is_prefix, is_supporting, is_frozen, type_nodes, regions_of, subst}
use Rattle.nll_spec.specs.WellFormed.{action_named, structs_named, outlived_named, variables_named, successors_named, actions_named, named, fields_fit, variables_fit, types_fit, steps_fit, path_fits, paths_of, paths_fit, shape_fits, shapes_fit, refusal, type_named, type_fits, same_shape}
use Rattle.nll_spec.specs.Graph.{first_point, block_statements, statements_from, statements_of, walked_table, graph_of}
use Rattle.nll_spec.specs.Liveness.{defs, uses, drops, live_table}
use Rattle.nll_spec.specs.Constraints.{relate_source, constraints_at, constraints_of, relate}
use Rattle.nll_spec.specs.Regions.{outlives_table, seed_table, solve, is_grown, drop_regions}
use Rattle.nll_spec.specs.Loans.{loan_at, loans_of, overwritten, kills, scope_table}
use Rattle.nll_spec.specs.Access.{accesses, intersects, freezes, conflicts, action_conflicts, first_fault, in_scope_at, verdict_at}
use Rattle.nll_spec.specs.Output.{answer, from_bits, row_words, words_of, bytes_of, words_needed, bytes_needed, write, judge_job, judge, analyse}
use Rattle.nll_spec.specs.Listing.{ascii, digit, bytes_from, hex_bytes, digits_of, line, answer_lines, listing}
use Rattle.nll_spec.specs.Guarantee.{holders_after, is_path, uses_holder, untouched}
use Rattle.nll_spec.specs.Cases.{times, case_holds, path_holds, cases, pitfalls, choices, paths}

-- ---- All rows hold

tables_hold : T (every case_holds cases) × T (every case_holds pitfalls) × T (every case_holds choices) × T (every path_holds paths)
unfolding cases pitfalls choices paths times case_holds path_holds accesses intersects freezes conflicts action_conflicts first_fault in_scope_at verdict_at relate_source constraints_at constraints_of relate done refuse ◌>>=◌ byte count pick one_of items counted borrow_kind region node_tag args tagged type_within type variance flag kind param field struct_decl path action block job code_count point_count borrow_count whole decode_body decode least first_point block_statements statements_from statements_of walked_table graph_of holders_after is_path uses_holder untouched ascii digit bytes_from hex_bytes digits_of line answer_lines listing defs uses drops live_table loan_at loans_of overwritten kills scope_table answer from_bits row_words words_of bytes_of words_needed bytes_needed write judge_job judge analyse outlives_table seed_table solve is_grown drop_regions arg_count drop_args field_type step_type step type_after path_type never_stops begins is_prefix is_supporting is_frozen type_nodes regions_of subst action_named structs_named outlived_named variables_named successors_named actions_named named fields_fit variables_fit types_fit steps_fit path_fits paths_of paths_fit shape_fits shapes_fit refusal type_named type_fits same_shape
tables_hold = (tt, tt, tt, tt)

-- Cases 1 to 10, by computing.
pub cases_hold : T (every case_holds cases)
cases_hold = tables_hold.0

pub pitfalls_avoided : T (every case_holds pitfalls)
pitfalls_avoided = tables_hold.1

pub choices_hold : T (every case_holds choices)
choices_hold = tables_hold.2

pub paths_hold : T (every path_holds paths)
paths_hold = tables_hold.3
