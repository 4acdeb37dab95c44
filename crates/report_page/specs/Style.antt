-- The style sheet of a page. `expected/style.py` writes this file from `expected/style.css`.
use Rattle.std.specs.Prelude.{ℕ, List, ◌++◌, codes}

-- the page, its words and its cards
unfoldable pub page_style : List ℕ
page_style = codes "@page{size:A4;margin:14mm}\n*{box-sizing:border-box}\nbody{margin:0 auto;padding:12px;max-width:56rem;font:16px/1.45 system-ui,-apple-system,'Segoe UI',Roboto,'Liberation Sans',Arial,sans-serif;color:#111;background:#fff;-webkit-print-color-adjust:exact;print-color-adjust:exact}\nh1{font-size:1.4rem;line-height:1.25;margin:.2em 0;overflow-wrap:anywhere}\nh2{font-size:1.1rem;margin:1.4em 0 .3em;break-after:avoid}\np{margin:.4em 0;overflow-wrap:anywhere}\ndl{display:flex;flex-wrap:wrap;gap:.6rem;margin:.8em 0}\ndl div{border:1px solid #999;border-left:6px solid #999;border-radius:4px;padding:.3em .8em;break-inside:avoid}\ndt{font-size:.85rem;color:#444}\ndd{margin:0;font-size:1.15rem;font-weight:600;font-variant-numeric:tabular-nums}\n.met{border-color:#1b7f3b}\n.missed{border-color:#b3261e;border-style:double solid;border-width:3px 1px 3px 6px}\n.undecided{border-color:#a15c00;border-style:dashed dashed dashed solid}\n.met dd{color:#14612d}\n.missed dd{color:#97201a}\n.undecided dd{color:#7a4600}\n"

-- the two plans
unfoldable pub plan_style : List ℕ
plan_style = codes "figure{margin:1em 0;break-inside:avoid}\nfigcaption,.note{font-size:.85rem;color:#333}\n.scroll{overflow-x:auto}\nsvg{display:block;width:100%;max-height:88vh}\nsvg text{font-family:'Liberation Sans',Arial,Helvetica,sans-serif;font-variant-numeric:tabular-nums}\n.floor{fill:#f4f4f4}\n.wall{fill:none;stroke:#111;stroke-width:3px;vector-effect:non-scaling-stroke}\n.halo{fill:none;stroke:#fff;stroke-opacity:.7;stroke-width:3px;vector-effect:non-scaling-stroke}\n.edge{fill:none;stroke:#111;stroke-width:1px;vector-effect:non-scaling-stroke}\n.box{fill:#d9d9d9;stroke:#333;stroke-width:1px;vector-effect:non-scaling-stroke}\n.task{fill:none;stroke:#b00;stroke-width:1.5px;stroke-dasharray:6 4;vector-effect:non-scaling-stroke}\n.covered{fill:url(#covered);stroke:#555;stroke-width:1px;vector-effect:non-scaling-stroke}\n.lamp{fill:#fff;stroke:#111;stroke-width:2px;vector-effect:non-scaling-stroke}\n.shine{fill:#8a8a8a;fill-opacity:.3;stroke:#555;stroke-width:1px;vector-effect:non-scaling-stroke}\n.aim,.ring{fill:none;stroke:#111;stroke-width:2px;vector-effect:non-scaling-stroke}\n.bar{fill:none;stroke:#111;stroke-width:5px;vector-effect:non-scaling-stroke}\n.values{text-anchor:middle;pointer-events:none}\n.values text{stroke:var(--c);stroke-width:.5em;stroke-linejoin:round;paint-order:stroke}\n.middle,.lampname{text-anchor:middle}\n"

-- the dark steps of the light
unfoldable pub dark_style : List ℕ
dark_style = codes ".s0{--c:#081d58;fill:#081d58;background:#081d58}\n.s1{--c:#13266e;fill:#13266e;background:#13266e}\n.s2{--c:#1e2e85;fill:#1e2e85;background:#1e2e85}\n.s3{--c:#263a97;fill:#263a97;background:#263a97}\n.s4{--c:#264a9e;fill:#264a9e;background:#264a9e}\n.s5{--c:#235aa6;fill:#235aa6;background:#235aa6}\n.s6{--c:#236aae;fill:#236aae;background:#236aae}\n.s7{--c:#2379b5;fill:#2379b5;background:#2379b5}\n.s8{--c:#2089bc;fill:#2089bc;background:#2089bc}\n.s9{--c:#2798c1;fill:#2798c1;background:#2798c1}\n"

-- the bright steps
unfoldable pub bright_style : List ℕ
bright_style = codes ".s10{--c:#36a8c3;fill:#36a8c3;background:#36a8c3}\n.s11{--c:#46b7c4;fill:#46b7c4;background:#46b7c4}\n.s12{--c:#6cc4be;fill:#6cc4be;background:#6cc4be}\n.s13{--c:#8cd1ba;fill:#8cd1ba;background:#8cd1ba}\n.s14{--c:#abddb7;fill:#abddb7;background:#abddb7}\n.s15{--c:#c9eab4;fill:#c9eab4;background:#c9eab4}\n.s16{--c:#e6f5b2;fill:#e6f5b2;background:#e6f5b2}\n.s17{--c:#ffffd9;fill:#ffffd9;background:#ffffd9}\n"

-- letters on the steps, and the list of them
unfoldable pub legend_style : List ℕ
legend_style = codes ".k{fill:#000;color:#000}\n.w{fill:#fff;color:#fff}\n.legend{display:flex;flex-wrap:wrap;list-style:none;margin:.5em 0 0;padding:0;font-size:.78rem;font-variant-numeric:tabular-nums}\n.legend li{flex:1 0 auto;padding:.25em .3em;min-width:2.1rem;text-align:center;border:1px solid #fff}\n.legend .hatch{flex:none;background:repeating-linear-gradient(-45deg,#fff 0 6px,#aaa 6px 8px);color:#000;font-weight:600;text-shadow:0 0 2px #fff,0 0 2px #fff,0 0 3px #fff,0 0 4px #fff;padding:.25em .6em}\n"

-- the tables, the account, and narrow screens and paper
unfoldable pub table_style : List ℕ
table_style = codes "table{border-collapse:collapse;font-size:.9rem;font-variant-numeric:tabular-nums}\nth,td{border-bottom:1px solid #bbb;padding:.2em .9em .2em 0;text-align:left;vertical-align:top;white-space:nowrap}\nthead{display:table-header-group}\ntr{break-inside:avoid}\n.name{min-width:9rem;white-space:normal;overflow-wrap:anywhere}\n.points{columns:13rem;column-gap:2rem}\n.account{border:1px solid #999;border-radius:4px;margin:1.6em 0 .6em;padding:.1em 1em .6em;background:#fafafa}\n.account h2{margin-top:.6em}\ncode{font-family:ui-monospace,'Liberation Mono',monospace;font-size:.92em;overflow-wrap:anywhere}\n@media (max-width:40rem){svg{max-height:none}.fine{width:44rem}}\n@media print{.legend{font-size:7.5pt}.legend li{min-width:0;padding:.25em .2em}body{padding:0;max-width:none;font-size:10.5pt}.light{max-height:165mm}.things{max-height:95mm}h2{font-size:11.5pt}h1{font-size:14pt}figure{margin:.5em 0}.scroll{overflow:visible}.account{background:none}table{font-size:9pt}}\n"

-- all rules
unfoldable pub style : List ℕ
style = page_style ++ plan_style ++ dark_style ++ bright_style ++ legend_style ++ table_style
