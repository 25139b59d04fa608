-- Opcodes as numbers: one table for those behind `%x =` and one for those that begin a statement, in the order in which the definitions try
-- them, and what each number stands for.
-- Assumes nothing.
use Rattle.std.specs.Prelude.{true, false, List, ◌∷◌, ◌++◌, ℕ, ◌-◌, ltb, eqb}
use Rattle.program.specs.Bytes.{bytes}
use Rattle.program.specs.Prog.{Prog}
use Rattle.grammar.specs.Lexer.{refuse}
use Rattle.grammar.specs.Counter.{Counted}
use Rattle.grammar.specs.Values.{bin_ops}
use Rattle.grammar.specs.Instructions.{fbin_ops, inst_conv_ops, tail_words, parse_bin, parse_fbin, parse_fneg, parse_conv, parse_icmp, parse_fcmp, parse_select, parse_load, parse_gep_inst, parse_phi, parse_alloca, parse_freeze, parse_call, parse_cmpxchg, parse_atomicrmw, parse_extractvalue, parse_tail_call, parse_store, parse_fence, uncounted, parse_plain_call, parse_plain_tail_call, parse_ret, parse_br, parse_switch, parse_unreachable}
use Rattle.grammar.specs.Body.{Statement, as_terminator, as_instruction}

-- 0 binary, 13 floating binary, 18 `fneg`, 19 conversions, 31 `icmp` and on, 43 the words before `call`; 46 is none
unfoldable pub value_opcodes : List (List ℕ)
value_opcodes =
    bin_ops ++
    (fbin_ops ++
    (bytes "fneg" ∷
    (inst_conv_ops ++
    (bytes "icmp" ∷ bytes "fcmp" ∷ bytes "select" ∷ bytes "load" ∷ bytes "getelementptr" ∷ bytes "phi" ∷ bytes "alloca" ∷
    bytes "freeze" ∷ bytes "call" ∷ bytes "cmpxchg" ∷ bytes "atomicrmw" ∷ bytes "extractvalue" ∷ tail_words))))

unfoldable pub value_at : ℕ → ℕ → Prog (List ℕ)
value_at dest r =
    elim (ltb r 13) [
      | true ↦ parse_bin r dest
      | false ↦
          elim (ltb r 18) [
            | true ↦ parse_fbin (r - 13) dest
            | false ↦
                elim (eqb r 18) [
                  | true ↦ parse_fneg dest
                  | false ↦
                      elim (ltb r 31) [
                        | true ↦ parse_conv (r - 19) dest
                        | false ↦
                            elim (eqb r 31) [
                              | true ↦ parse_icmp dest
                              | false ↦
                                  elim (eqb r 32) [
                                    | true ↦ parse_fcmp dest
                                    | false ↦
                                        elim (eqb r 33) [
                                          | true ↦ parse_select dest
                                          | false ↦
                                              elim (eqb r 34) [
                                                | true ↦ parse_load dest
                                                | false ↦
                                                    elim (eqb r 35) [
                                                      | true ↦ parse_gep_inst dest
                                                      | false ↦
                                                          elim (eqb r 36) [
                                                            | true ↦ parse_phi dest
                                                            | false ↦
                                                                elim (eqb r 37) [
                                                                  | true ↦ parse_alloca dest
                                                                  | false ↦
                                                                      elim (eqb r 38) [
                                                                        | true ↦ parse_freeze dest
                                                                        | false ↦
                                                                            elim (eqb r 39) [
                                                                              | true ↦ parse_call dest
                                                                              | false ↦
                                                                                  elim (eqb r 40) [
                                                                                    | true ↦ parse_cmpxchg dest
                                                                                    | false ↦
                                                                                        elim (eqb r 41) [
                                                                                          | true ↦ parse_atomicrmw dest
                                                                                          | false ↦
                                                                                              elim (eqb r 42) [
                                                                                                | true ↦ parse_extractvalue dest
                                                                                                | false ↦
                                                                                                    elim (ltb r 46) [
                                                                                                      | true ↦ parse_tail_call dest
                                                                                                      | false ↦
                                                                                                          refuse 9
                                                                                                    ]
                                                                                              ]
                                                                                        ]
                                                                                  ]
                                                                            ]
                                                                      ]
                                                                ]
                                                          ]
                                                    ]
                                              ]
                                        ]
                                  ]
                            ]
                      ]
                ]
          ]
    ]

-- 0 terminators, 4 instructions without a destination, 7 the words before `call`; 10 is none
unfoldable pub statement_words : List (List ℕ)
statement_words =
    bytes "ret" ∷ bytes "br" ∷ bytes "switch" ∷ bytes "unreachable" ∷ bytes "store" ∷ bytes "fence" ∷ bytes "call" ∷ tail_words

unfoldable pub terminator_at : ℕ → Prog (List ℕ)
terminator_at r =
    elim (eqb r 0) [
      | true ↦ parse_ret
      | false ↦
          elim (eqb r 1) [
            | true ↦ parse_br
            | false ↦
                elim (eqb r 2) [
                  | true ↦ parse_switch
                  | false ↦
                      parse_unreachable
                ]
          ]
    ]

unfoldable pub plain_at : (c r : ℕ) → Prog (Counted (List ℕ))
plain_at c r =
    elim (eqb r 4) [
      | true ↦ uncounted c parse_store
      | false ↦
          elim (eqb r 5) [
            | true ↦ uncounted c parse_fence
            | false ↦
                elim (eqb r 6) [
                  | true ↦ parse_plain_call c
                  | false ↦
                      elim (ltb r 10) [
                        | true ↦ parse_plain_tail_call c
                        | false ↦
                            refuse 9
                      ]
                ]
          ]
    ]

unfoldable pub statement_at : (c r : ℕ) → Prog Statement
statement_at c r = elim (ltb r 4) [ true ↦ as_terminator c (terminator_at r) | false ↦ as_instruction (plain_at c r) ]
